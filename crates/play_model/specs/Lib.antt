pub mod Plays
pub use Rattle.trace_text.specs.Orders
