mod AllKinds
mod Nearest
