pub mod Cursor
