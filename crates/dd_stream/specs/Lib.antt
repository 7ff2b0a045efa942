pub mod Bytes
pub mod Feeds
pub mod Reads
pub mod Sends
pub mod StreamLaws
pub mod Streams
