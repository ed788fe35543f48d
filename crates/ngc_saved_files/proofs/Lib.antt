-- what is read of files, and that it stays the same
mod FileLaws
