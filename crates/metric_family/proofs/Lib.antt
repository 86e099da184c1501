mod WordLaws
mod Characters
mod Labels
mod GrammarLaws
mod PartLaws
mod UnitLaws
