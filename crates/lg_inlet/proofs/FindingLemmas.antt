-- What a scan and a look at the unread bytes come to.
use Rattle.std.proofs.Common.{◌≡◌, ℕ, ◌≤◌, List, ◌++◌, length, take, sym, ap, ◌∙◌, subst, arith, length-append}
use Rattle.std.proofs.lemmas.List.{take_all, take-append-le}
use Rattle.httparse.specs.Grammar.{HasNoRequest, MayBecomeRequest}
use Rattle.lg_heads.specs.declared.head_scan.HeadScan.{HeadScan}
use Rattle.lg_heads.specs.declared.head_scan.Seen.{Seen}
use Rattle.lg_heads.specs.declared.head_scan.Seen.TheVariants.{All}
use Rattle.lg_heads.specs.declared.verdict.Verdict.{Verdict}
use Rattle.lg_heads.specs.declared.verdict.Verdict.TheVariants.{Whole, Bad, Long, Open}
use Rattle.lg_heads.specs.Heads.{IsVerdict}
use Rattle.lg_heads.specs.Lines.{lines_of, IsWithinLimits}
use Rattle.lg_heads.specs.Scanning.{place_of, HasCounted, HasNoHead, HasStopped}
use Rattle.lg_heads.specs.Verdicts.{IsOpen, WantsMore}
use Rattle.lg_inlet.specs.Finding.{IsLook}

-- a judged verdict says what a look says
pub look_of : (bytes : List ℕ) (scan : HeadScan) (verdict : Verdict) → IsVerdict bytes (place_of scan) verdict → IsLook bytes scan verdict
look_of bytes scan (Whole head) is = is
look_of bytes scan Bad is = is
look_of bytes scan Long is = is
look_of bytes scan Open is = is.0

-- the scan has looked at all the bytes
whole_front : (bytes : List ℕ) (scan : HeadScan) → place_of scan ≡ length bytes → take (place_of scan) bytes ≡ bytes
whole_front bytes scan all = take_all (place_of scan) bytes (omega arith)

pub wants_all : (bytes : List ℕ) (scan : HeadScan) → HasCounted scan bytes → place_of scan ≡ length bytes → HasNoHead scan bytes → WantsMore bytes
wants_all bytes scan counted all none =
    let same = whole_front bytes scan all in
    record { within = subst IsWithinLimits same counted.within; none = subst HasNoRequest same none }

pub open_all : (bytes : List ℕ) (scan : HeadScan) → HasCounted scan bytes → place_of scan ≡ length bytes
    → HasNoRequest (take (place_of scan) bytes) → MayBecomeRequest (take (place_of scan) bytes) → IsOpen bytes
open_all bytes scan counted all none may =
    let same = whole_front bytes scan all in
    record {
      within = subst IsWithinLimits same counted.within;
      none = subst HasNoRequest same none;
      may = subst MayBecomeRequest same may;
    }

-- more bytes change nothing before the scan's place
front_stays : (bytes more : List ℕ) (scan : HeadScan) → place_of scan ≤ length bytes → take (place_of scan) bytes ≡ take (place_of scan) (bytes ++ more)
front_stays bytes more scan inside = sym (take-append-le (place_of scan) bytes more inside)

pub counted_append : (bytes more : List ℕ) (scan : HeadScan) → HasCounted scan bytes → HasCounted scan (bytes ++ more)
counted_append bytes more scan counted =
    let same = front_stays bytes more scan counted.place in
    record {
      place = omega (arith, counted.place, length-append bytes more);
      lines = ap lines_of (sym same) ∙ counted.lines;
      within = subst IsWithinLimits same counted.within;
    }

pub no_head_append : (bytes more : List ℕ) (scan : HeadScan) → HasCounted scan bytes → HasNoHead scan bytes → HasNoHead scan (bytes ++ more)
no_head_append bytes more scan counted none = subst HasNoRequest (front_stays bytes more scan counted.place) none

-- the scan has looked at all the bytes, and there is no whole head in them
pub record IsScanned (scan : HeadScan) (bytes : List ℕ) : Type 0 where
  pub counted : HasCounted scan bytes
  pub all : place_of scan ≡ length bytes
  pub none : HasNoHead scan bytes

pub scanned_all : (scan : HeadScan) (bytes shown : List ℕ) (seen : Seen) → shown ≡ bytes → HasCounted scan shown → HasStopped scan shown seen
    → seen ≡ All → IsScanned scan bytes
scanned_all scan bytes shown seen same counted stopped is =
    let all = subst (HasStopped scan shown) is stopped in
    record {
      counted = subst (HasCounted scan) same counted;
      all = all.0 ∙ ap length same;
      none = subst (HasNoHead scan) same all.1;
    }

pub wants_scanned : (scan : HeadScan) (bytes : List ℕ) → IsScanned scan bytes → WantsMore bytes
wants_scanned scan bytes s = wants_all bytes scan s.counted s.all s.none

-- no bytes came
pub scanned_same : (scan : HeadScan) (bytes came after : List ℕ) → IsScanned scan bytes → after ≡ bytes ++ came → length came ≡ 0 → IsScanned scan after
scanned_same scan bytes came after s is none = record {
  counted = subst (HasCounted scan) (sym is) (counted_append bytes came scan s.counted);
  all = omega (arith, s.all, ap length is, length-append bytes came);
  none = subst (HasNoHead scan) (sym is) (no_head_append bytes came scan s.counted s.none);
}
