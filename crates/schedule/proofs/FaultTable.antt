-- The faults of faulty files, by example: read_file computes each row. Assumes nothing.
use mathlib.Core.Path.{refl}
use Rattle.text.specs.Number.{is_digit, scan, number_at}
use Rattle.rules.specs.Limits.{among}
use Rattle.schedule.specs.Lines.{Every, before, lines_at}
use Rattle.schedule.specs.Line.{letter_of, numbers_after, may_cut, step_of, closed, spaced_at, next_number, end_at, ended_at, after_letter, line_at}
use Rattle.schedule.specs.Header.{word_at, alone_at, header_at}
use Rattle.schedule.specs.Values.{value_at}
use Rattle.schedule.specs.Schedule.{part_at, measured_from, warmup_from, values_from, read_file}
use Rattle.schedule.specs.FaultTable.{FaultTable}

pub fault-table-holds : FaultTable
unfolding is_digit scan number_at
    among Every before lines_at
    letter_of numbers_after may_cut step_of closed spaced_at next_number end_at ended_at after_letter line_at
    word_at alone_at header_at value_at part_at measured_from warmup_from values_from read_file
fault-table-holds = ((refl, refl), ((refl, refl), ((refl, refl), ((refl, refl), ((refl, refl), ((refl, refl), ((refl, refl), ((refl, refl), ((refl, refl), ((refl, refl), ((refl, refl), ((refl, refl), ((refl, refl), ((refl, refl), ((refl, refl), ((refl, refl), ((refl, refl), ((refl, refl), ((refl, refl), ((refl, refl), ((refl, refl), ((refl, refl), ((refl, refl), ((refl, refl), ((refl, refl), ((refl, refl), ((refl, refl), ((refl, refl), ((refl, refl), ((refl, refl), ((refl, refl), ((refl, refl), tt))))))))))))))))))))))))))))))))
