-- The view of what is open, as frames come, go and change at its end.
use Rattle.std.proofs.Common.{◌≡◌, ℕ, suc, ◌-◌, ◌<◌, List, [], ◌∷◌, ◌++◌, length, map, reverse, take, get_or, set, Result, refl, sym, ap, ◌∙◌, subst, arith}
use Rattle.std.proofs.Math.Seq.{take-suc, take-suc-set, take-length}
use Rattle.std.proofs.lemmas.List.{reverse-append, length-set}
use Rattle.lg_json.specs.Tree.{Tree}
use Rattle.lg_json.specs.Reading.{at, complete, with_name, with_value}
use Rattle.lg_json.specs.Reading as machine
use Rattle.lg_json.specs.Reading.Mode.{after_item}
use Rattle.lg_json.specs.View.{Gives, standing, frame_view, frames_view, next_view}
use Rattle.lg_json.specs.declared.json.JsonFault.{JsonFault}
use Rattle.lg_json.specs.declared.state.Frame.{Frame}
use Rattle.lg_json.specs.declared.state.Next.{Next}

map-append : (fs gs : List Frame) → map frame_view (fs ++ gs) ≡ map frame_view fs ++ map frame_view gs
map-append [] gs = refl
map-append (f ∷ fs) gs = ap (λ hs. frame_view f ∷ hs) (map-append fs gs)

pub pushed : (fs : List Frame) (f : Frame) → frames_view (fs ++ f ∷ []) ≡ frame_view f ∷ frames_view fs
pushed fs f = ap reverse (map-append fs (f ∷ [])) ∙ reverse-append (map frame_view fs) (frame_view f ∷ [])

-- the innermost f, which is the last of n
split_last : (fs : List Frame) (n : ℕ) (f : Frame) → n ≡ length fs → 0 < n → f ≡ get_or fs (n - 1) f → fs ≡ take (n - 1) fs ++ f ∷ []
split_last fs n f e some is =
    let up : suc (n - 1) ≡ length fs = omega arith in
    sym (take-length fs) ∙ ap (λ k. take k fs) (sym up) ∙ take-suc fs (n - 1) f (omega arith) ∙ ap (λ g. take (n - 1) fs ++ g ∷ []) (sym is)

set_last : (fs : List Frame) (n : ℕ) (w : Frame) → n ≡ length fs → 0 < n → set fs (n - 1) w ≡ take (n - 1) fs ++ w ∷ []
set_last fs n w e some =
    let up : suc (n - 1) ≡ length (set fs (n - 1) w) = omega (arith, length-set fs (n - 1) w) in
    sym (take-length (set fs (n - 1) w)) ∙ ap (λ k. take k (set fs (n - 1) w)) (sym up) ∙ take-suc-set fs (n - 1) w (omega arith)

-- those around the innermost
pub outer : List Frame → ℕ → List machine.Frame
outer fs n = frames_view (take (n - 1) fs)

pub innermost : (fs : List Frame) (n : ℕ) (f : Frame) → n ≡ length fs → 0 < n → f ≡ get_or fs (n - 1) f → frames_view fs ≡ frame_view f ∷ outer fs n
unfolding outer
innermost fs n f e some is = ap frames_view (split_last fs n f e some is) ∙ pushed (take (n - 1) fs) f

pub changed : (fs : List Frame) (n : ℕ) (w : Frame) → n ≡ length fs → 0 < n → frames_view (set fs (n - 1) w) ≡ frame_view w ∷ outer fs n
unfolding outer
changed fs n w e some = ap frames_view (set_last fs n w e some) ∙ pushed (take (n - 1) fs) w

-- a value is put into the innermost
pub put_in : (fs : List Frame) (n : ℕ) (f w : Frame) (t : Tree) → n ≡ length fs → 0 < n → f ≡ get_or fs (n - 1) f → frame_view w ≡ with_value (frame_view f) t → complete (frames_view fs) t ≡ standing (set fs (n - 1) w) Next.Comma
put_in fs n f w t e some is put =
    ap (λ gs. complete gs t) (innermost fs n f e some is) ∙ ap (λ g. at (g ∷ outer fs n) after_item) (sym put) ∙ ap (λ gs. at gs after_item) (sym (changed fs n w e some))

-- a name is read in the innermost
pub named_in : (fs : List Frame) (n i q : ℕ) (f w : Frame) (name : List ℕ) (r : Result Next JsonFault) → n ≡ length fs → 0 < n → f ≡ get_or fs (n - 1) f
    → ((gs : List machine.Frame) → Gives (λ m. at (frame_view w ∷ gs) (next_view m)) r (with_name i q (frame_view f ∷ gs) name)) → Gives (standing (set fs (n - 1) w)) r (with_name i q (frames_view fs) name)
named_in fs n i q f w name r e some is named =
    subst (λ gs. Gives (λ m. at (frames_view (set fs (n - 1) w)) (next_view m)) r (with_name i q gs name)) (sym (innermost fs n f e some is))
    (subst (λ gs. Gives (λ m. at gs (next_view m)) r (with_name i q (frame_view f ∷ outer fs n) name)) (sym (changed fs n w e some)) (named (outer fs n)))
