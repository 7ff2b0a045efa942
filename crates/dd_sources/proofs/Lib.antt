pub mod Answering
pub mod Lending
pub mod PassedSources
pub mod Settling
