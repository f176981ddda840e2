mod Words
mod Texts
mod Scripts
mod Blanks
