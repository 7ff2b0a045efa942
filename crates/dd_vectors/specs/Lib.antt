pub mod ByteSource
pub mod Sink
