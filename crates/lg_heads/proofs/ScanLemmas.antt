-- One step of a scan.
use Rattle.std.proofs.Common.{◌≡◌, ℕ, ◌+◌, ◌-◌, ◌<◌, ◌≤◌, List, length, get_or, take, sym, ap, ◌∙◌, subst, arith}
use Rattle.std.proofs.lemmas.List.{take_more, length-take-le}
use Rattle.std.proofs.lemmas.List.Sums.{fold_more}
use Rattle.httparse.specs.Grammar.{HasNoRequest}
use Rattle.lg_heads.specs.declared.head_scan.HeadScan.{HeadScan}
use Rattle.lg_heads.specs.Lines.{Lines, line_step, no_lines, lines_of}
use Rattle.lg_heads.specs.Scanning.{counted_lines, HasCounted, HasNoHead, EndsHead}
use Rattle.lg_heads.proofs.Prefixes.{none_more}

-- the lines before the place of the next byte
next_lines : (old new : HeadScan) (bytes : List ℕ) → HasCounted old bytes → old.at < length bytes → new.at ≡ old.at + 1
    → counted_lines new ≡ line_step (counted_lines old) (get_or bytes old.at 0) → lines_of (take new.at bytes) ≡ counted_lines new
next_lines old new bytes counted inside moved lines =
    ap (λ (n : ℕ). lines_of (take n bytes)) moved
    ∙ fold_more line_step no_lines bytes old.at 0 inside
    ∙ ap (λ (l : Lines). line_step l (get_or bytes old.at 0)) counted.lines
    ∙ sym lines

pub counted_more : (old new : HeadScan) (bytes : List ℕ) → HasCounted old bytes → old.at < length bytes → new.at ≡ old.at + 1
    → counted_lines new ≡ line_step (counted_lines old) (get_or bytes old.at 0) → old.at < 16384
    → (line_step (counted_lines old) (get_or bytes old.at 0)).ended - 1 ≤ 64 → HasCounted new bytes
counted_more old new bytes counted inside moved lines room few =
    let all = next_lines old new bytes counted inside moved lines in
    let fits : new.at ≤ length bytes = omega arith in
    let count : (lines_of (take new.at bytes)).ended ≡ (line_step (counted_lines old) (get_or bytes old.at 0)).ended = ap (λ (l : Lines). l.ended) (all ∙ lines) in
    record {
      place = fits;
      lines = all;
      within = record { bytes_fit = omega (arith, length-take-le new.at bytes fits); lines_fit = omega arith };
    }

pub no_head_more : (old new : HeadScan) (bytes : List ℕ) → HasCounted old bytes → HasNoHead old bytes → old.at < length bytes → new.at ≡ old.at + 1
    → ¬ (EndsHead (counted_lines old) (get_or bytes old.at 0)) → HasNoHead new bytes
no_head_more old new bytes counted none inside moved other =
    let b : ℕ = get_or bytes old.at 0 in
    let more = none_more (take old.at bytes) b none (λ ends. other (subst (λ (l : Lines). EndsHead l b) counted.lines ends)) in
    subst HasNoRequest (sym (ap (λ (n : ℕ). take n bytes) moved ∙ take_more bytes old.at 0 inside)) more
