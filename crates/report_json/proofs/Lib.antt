mod Channels
mod Tables
