-- What a host's call promises.
pub mod Hosted
pub mod Context
