mod Texts
mod Unread
