mod Calling
mod Turning
mod Handing
mod Patience
mod ShownLaws
mod WindowLaws
