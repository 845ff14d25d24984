mod Due
mod Reading
