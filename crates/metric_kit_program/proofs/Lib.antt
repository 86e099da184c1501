mod StopLaws
mod ThreadLaws
mod TotalLaws
