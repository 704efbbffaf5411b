-- What holds of every file: see specs/Files. Assumes nothing.
pub mod LineFeeds
pub mod Sections
pub mod First
use mathlib.Core.Path.{refl}
use Rattle.schedule.specs.Files.{Files}
use Rattle.schedule.proofs.RoundTrip.File.{file-spelled, read-long}
use Rattle.schedule.proofs.Files.First.{first-fault, file-read, one-file}

pub files : Files
files = record { spelled = file-spelled; read = file-read; one = one-file; long = λ s h. (read-long s h, refl); first = first-fault }
