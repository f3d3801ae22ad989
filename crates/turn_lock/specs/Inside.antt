-- Words of the rule: how the words, the slot and the seats of the table show one history. No clause of a public call says any of them.
pub mod Rule
pub mod Steps
pub mod Passes
