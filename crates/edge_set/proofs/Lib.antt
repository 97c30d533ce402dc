-- How the promise of `next` comes about.
mod Passing
