-- Made scripts: a shop's sales and its refunds, 260 seconds apart, the same for the same seed.
use Rattle.std.specs.Prelude.{ℕ, zero, suc, ◌+◌, ◌-◌, ◌*◌, ◌/◌, ◌%◌, ◌^◌, ◌==◌, if◌then◌else◌, pos, List, [], ◌∷◌, ◌++◌, codes, decimal}
use Rattle.std.specs.List.{concat, flat_map, range_with_len}
use Rattle.lg_types.specs.PartTexts.{date_text}

-- the next number of a linear congruential sequence
abbrev pub next_number : ℕ → ℕ
next_number x = (x * 6364136223846793005 + 1442695040888963407) % 2 ^ 64

-- the number of the sequence at a place; the seed stands at place 0
abbrev pub number_at : ℕ → ℕ → ℕ
number_at seed zero = seed
number_at seed (suc i) = next_number (number_at seed i)

-- what the customer and the date of the line at a place are drawn from: the upper half of the number behind it
abbrev pub drawn_at : ℕ → ℕ → ℕ
drawn_at seed i = number_at seed (i + 1) / 2 ^ 32

-- the moment of the line at a place, 2024-01-01T00:00:00Z for the first; microseconds since 1970-01-01T00:00:00Z
abbrev pub moment_at : ℕ → ℕ
moment_at i = 1704067200000000 + 260000000 * i

-- what a sale takes from its customer, in cents, and the part of it that is the fee
abbrev pub price_at : ℕ → ℕ
price_at i = 1000 + 10 * (i % 100)

abbrev pub fee_at : ℕ → ℕ
fee_at i = 10 + i % 10

-- the members that every line begins with
unfoldable pub opening : ℕ → List ℕ
opening i =
    concat (codes "{\"caller\":" ∷ decimal (i % 4) ∷ codes ",\"phase\":" ∷ decimal (i / 100) ∷ codes ",\"now\":" ∷ date_text (pos (moment_at i)) ∷ codes ",\"method\":\"POST\",\"path\":\"/v2/default/transactions" ∷ [])

-- the revert of the transaction that the line five before made: transactions are counted from one on, lines from zero
abbrev pub revert_line : ℕ → List ℕ
revert_line i = opening i ++ concat (codes "/" ∷ decimal (i - 4) ∷ codes "/revert\"}\n" ∷ [])

-- one sale in eight has an effective date, whole seconds and at most a day before its moment
abbrev pub timestamp_at : ℕ → ℕ → ℕ
timestamp_at i drawn = moment_at i - (drawn / 8) % 86400 * 1000000

unfoldable pub timestamp_member : ℕ → ℕ → List ℕ
timestamp_member i drawn = (if drawn % 8 == 0 then concat (codes ",\"timestamp\":" ∷ date_text (pos (timestamp_at i drawn)) ∷ []) else [])

-- the postings of a sale: money comes to the customer, who pays the shop and its fee
unfoldable pub postings_member : ℕ → ℕ → List ℕ
postings_member i drawn =
    concat (codes "\",\"body\":{\"postings\":[{\"source\":\"world\",\"destination\":\"customers:" ∷ decimal (drawn % 1000) ∷ codes "\",\"amount\":" ∷ decimal (price_at i)
    ∷ codes ",\"asset\":\"USD/2\"},{\"source\":\"customers:" ∷ decimal (drawn % 1000) ∷ codes "\",\"destination\":\"shop:sales\",\"amount\":" ∷ decimal (price_at i - fee_at i)
    ∷ codes ",\"asset\":\"USD/2\"},{\"source\":\"customers:" ∷ decimal (drawn % 1000) ∷ codes "\",\"destination\":\"shop:fees\",\"amount\":" ∷ decimal (fee_at i)
    ∷ codes ",\"asset\":\"USD/2\"}]" ∷ [])

-- a sale
abbrev pub sale_line : ℕ → ℕ → List ℕ
sale_line i drawn = opening i ++ (postings_member i drawn ++ (timestamp_member i drawn ++ codes "}}\n"))

-- each tenth line is a revert, every other a sale
abbrev pub line_of : ℕ → ℕ → List ℕ
line_of i drawn = (if i % 10 == 9 then revert_line i else sale_line i drawn)

abbrev pub made_line : ℕ → ℕ → List ℕ
made_line seed i = line_of i (drawn_at seed i)

-- the script of so many lines
abbrev pub made_script : ℕ → ℕ → List ℕ
made_script seed lines = flat_map (made_line seed) (range_with_len 0 lines)
