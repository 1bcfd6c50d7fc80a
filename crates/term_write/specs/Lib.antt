pub mod ShowTerms
