-- The room that the lent areas give. Definitions only.
pub use Rattle.begin.specs.Begun.{lent_all}
