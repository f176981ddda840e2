mod Memory
mod Persisting
mod Refusing
mod SettingUp
mod Whole
mod Writing
