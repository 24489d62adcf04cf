mod Steps
mod KindCases
mod Entered
mod Tells
mod Limited
mod Order
mod Fronts
mod Refused
