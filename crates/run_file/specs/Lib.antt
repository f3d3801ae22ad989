pub mod RunFile
