mod LineLaws
mod Splits
mod PlainRuns
mod Escapes
mod PrintedAgain
mod OneSpelling
