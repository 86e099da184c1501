mod Pairs
mod Texts
mod Marks
mod LineTexts
mod AskedSets
mod KeyByKey
