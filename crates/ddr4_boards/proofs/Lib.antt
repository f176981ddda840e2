mod Fresh
mod Restoring
