pub mod ResultForm
pub mod ResultShows
