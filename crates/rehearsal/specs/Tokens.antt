-- The fields of a line as tokens, and the numbers that they write: decimal, below 2^63, without a leading zero. A tab is the byte 9.
use Rattle.std.specs.Prelude.{◌≡◌, ℕ, ◌+◌, ◌-◌, ◌*◌, ◌^◌, if◌then◌else◌, not, ◌&&◌, List, [], ◌∷◌, map, length, Some, None, Option, Bool, ◌==◌, nat_lt, slice_index}
use Rattle.std.specs.Char.{is_ascii_digit}
use Rattle.std.specs.List.{list_all, slice_split}
use Rattle.std.specs.Option.{option_and_then, option_map_or, option_zip}
use Rattle.rehearsal.specs.declared.token.Token.{Token}
use Rattle.rehearsal.specs.declared.token.Tokens.{Tokens}
use Rattle.rehearsal.specs.declared.token.Token.TheVariants.{Word, Number}

-- TOKENS

-- a field that is written as a number, and any other
pub data TokenView : Type 0 where
  word : List ℕ → TokenView
  number : List ℕ → TokenView

-- what a token says of the part of the line that it holds
abbrev pub token_view : Token → TokenView
token_view (Word part) = word part.now
token_view (Number part) = number part.now

-- a number is written with digits, one or more, and with no zero before another digit
abbrev pub is_written : List ℕ → Bool
is_written field = not (length field == 0) && not (slice_index field 0 == 48 && nat_lt 1 (length field)) && list_all is_ascii_digit field

abbrev pub token_of : List ℕ → TokenView
token_of field = if is_written field then number field else word field

-- the tokens of fields with tabs between them
abbrev pub tokens_of : List ℕ → List TokenView
tokens_of fields = map token_of (slice_split (λ b. b == 9) fields)

-- the tokens that are still to be taken
abbrev pub tokens_left : Tokens → List TokenView
tokens_left tokens = option_map_or (λ rest. tokens_of rest.now) tokens.rest []

-- the first of the tokens was taken, if there was one
abbrev pub Takes : List TokenView → Option Token → List TokenView → Type 0
Takes old None new = (old ≡ []) × (new ≡ old)
Takes old (Some token) new = old ≡ token_view token ∷ new

-- NUMBERS

-- the number that digits write when n was read before them, or none where a byte is no digit
abbrev pub read_on : ℕ → List ℕ → Option ℕ
read_on n [] = Some n
read_on n (b ∷ bs) = if is_ascii_digit b then read_on (n * 10 + (b - 48)) bs else None

-- a number that is below 2^63
abbrev pub if_below : ℕ → Option ℕ
if_below n = if nat_lt n (2 ^ 63) then Some n else None

-- the number that digits write, if it is below 2^63
abbrev pub value_of : List ℕ → Option ℕ
value_of digits = option_and_then if_below (read_on 0 digits)

-- the number that a token writes; a word writes none
abbrev pub number_in : TokenView → Option ℕ
number_in (word letters) = None
number_in (number digits) = value_of digits

abbrev pub number_of : List ℕ → Option ℕ
number_of field = number_in (token_of field)

-- the numbers that two tokens write
abbrev pub two_numbers : List TokenView → Option (ℕ × ℕ)
two_numbers (number a ∷ number b ∷ []) = option_zip (value_of a) (value_of b)
two_numbers tokens = None

abbrev pub numbers_of : List ℕ → Option (ℕ × ℕ)
numbers_of fields = two_numbers (tokens_of fields)
