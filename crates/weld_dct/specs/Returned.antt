-- What the functions return, as the papers have it.
use Rattle.answers.specs.Answer as answers
use Rattle.summary.specs.Summary.{Given}
use Rattle.weld_dct.specs.declared.Returned.{Returned}
use Rattle.weld_dct.specs.declared.SummaryReturned.{SummaryReturned}

-- the number and the place that a function returns
abbrev pub number_and_place : Returned → answers.Returned
number_and_place r = record { number = r.number; place = r.place }

-- what stands beside them for a summary
abbrev pub given_by : SummaryReturned → Given
given_by r = record { textured = r.textured; mean = r.mean; largest = r.largest }
