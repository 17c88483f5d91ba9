pub mod Dense
