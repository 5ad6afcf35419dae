mod Ended
mod Registers
mod Remainders
mod TextFacts
