mod OneAnswer
mod OrderNamed
mod Places
mod Texts
mod Told
mod Whole
