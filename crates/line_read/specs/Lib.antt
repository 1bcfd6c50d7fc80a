pub mod At
pub mod States
