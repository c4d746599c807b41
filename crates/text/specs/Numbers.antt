-- The number that a field writes. Assumes nothing.
use Rattle.std.specs.Prelude.{ℕ, cond, not, ◌||◌, List, length, Ok, Err, Result, ◌==◌, nat_lt}
use Rattle.std.specs.Char.{is_ascii_digit}
use Rattle.std.specs.List.{list_all}
use Rattle.std.specs.Str.Parse.{digits_value}
use Rattle.terms.specs.Amounts.{far}
use Rattle.terms.specs.declared.fault.NumberFault.{NumberFault}
use Rattle.terms.specs.declared.fault.NumberFault.TheVariants.{Empty, NotADigit, TooLarge}

-- one to ten digits that write at most far; else the first fault that fits
unfoldable pub number_of : List ℕ → Result ℕ NumberFault
number_of field =
    cond (length field == 0) (Err Empty)
    (cond (not (list_all is_ascii_digit field)) (Err NotADigit)
    (cond (nat_lt 10 (length field) || nat_lt far (digits_value 10 field)) (Err TooLarge)
    (Ok (digits_value 10 field))))
