pub mod Goes
mod Awaiting
mod Seeing
mod Beginning
mod Calling
