mod Blown
mod Passing
