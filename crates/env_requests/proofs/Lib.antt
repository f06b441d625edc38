pub mod RunRequests
pub mod KeepLemmas
pub mod ReturnLemmas
pub mod ObeyLemmas
pub mod ListLemmas
