mod Ends
mod Bodies
mod Listed
mod Takes
