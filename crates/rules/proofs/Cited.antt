-- What the crates above may cite: all else in this folder is for the rules alone. Assumes nothing.
-- the theorem about runs
pub use Rattle.rules.proofs.Theorem.{safety}
-- every state of a run: its size, its members, that its steps can be taken, and a list of steps in two parts
pub use Rattle.rules.proofs.Depths.Basics.{DeepBasic, deep-size, deep-fine, start-deep, deep-basic, deep_more}
pub use Rattle.rules.proofs.Laws.Sound.{Fine}
-- a start and a step of any group over any stores: what is refused leaves all as it was, sizes and lengths stay, and what is sound stays so
pub use Rattle.rules.proofs.Laws.Whole.{deep-keeps, deep-step-size, deep-sized-step, deep-sound-step, deep-step-length, depths-step-length, Starting, deep-starting}
-- the layout of a group: what is put in comes out, and all else stays
pub use Rattle.rules.proofs.Laws.Group.{process-put, process-kept, with_size, started-process, started-size}
pub use Rattle.rules.proofs.Laws.Group.{process-deep}
-- counting, tests of 1..n, truth values
pub use Rattle.rules.proofs.Laws.Count.{count-ext, count_none}
pub use Rattle.rules.proofs.Laws.Row.{among-true, among_in}
pub use Rattle.rules.proofs.Laws.Bool.{and_left, and_right, or_left, or_right}
