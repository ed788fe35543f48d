-- names that are not that of the output, and files that stay as they are
mod NameLaws
