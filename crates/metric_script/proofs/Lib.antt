mod AttributeLaws
mod LineLaws
mod ScriptLaws
mod OneScript
mod PlaceLaws
