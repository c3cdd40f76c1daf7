pub mod Sends
pub mod NumberLemmas
pub mod Unread
pub mod MnemonicLemmas
