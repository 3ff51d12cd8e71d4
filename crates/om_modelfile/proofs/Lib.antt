pub mod Reading
pub mod FaultsOf
pub mod RowsRead
pub mod KeysOf
pub mod Utf8
pub mod OneFault
