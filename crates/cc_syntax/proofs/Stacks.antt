-- What is open: a list of frames whose innermost is its last.
use Rattle.std.proofs.Common.{◌≡◌, ℕ, ◌-◌, ◌<◌, Bool, true, false, not, IsTrue, if◌then◌else◌, IsSome, List, [], ◌∷◌, ◌++◌, length, get_or, map, reverse, Option, Some, None, refl, sym, ap, subst, ◌∙◌, length-append, arith}
use Rattle.std.proofs.Math.Seq.{get_or-append_seam}
use Rattle.std.proofs.lemmas.Bool.{false≢true}
use Rattle.std.proofs.lemmas.List.{length-map, length-reverse, map-append, reverse-append}
use Rattle.std.specs.Option.{option_to_list}
use Rattle.cc_syntax.specs.declared.frames.Frame.{Frame}
use Rattle.cc_defs.specs.Trees.{PlainTree}
use Rattle.cc_syntax.specs.Formulas.{PlainFrame, plain_frame, stack, filled, ends_before, closed}
use Rattle.cc_syntax.specs.Turns.{goes_on, Popped}

pub stack-pushed : (frames pushed : List Frame) (frame : Frame) → pushed ≡ frames ++ frame ∷ [] → stack pushed ≡ plain_frame frame ∷ stack frames
stack-pushed frames pushed frame e =
    ap stack e ∙ ap reverse (map-append plain_frame frames (frame ∷ [])) ∙ reverse-append (map plain_frame frames) (plain_frame frame ∷ [])

-- the last was taken off where its operand ends
pub popped-last : (bound : ℕ) (frames rest : List Frame) (last : Option Frame) (frame : Frame) → frames ≡ rest ++ option_to_list last → IsSome last
    → frame ≡ get_or frames (length frames - 1) frame → ends_before bound (plain_frame frame) ≡ true → Popped bound (stack frames) last (stack rest)
popped-last bound frames rest None frame e some is ends = absurd cc
popped-last bound frames rest (Some last) frame e some is ends =
    let size : length frames - 1 ≡ length rest = omega (arith, ap length e, length-append rest (last ∷ [])) in
    let same : frame ≡ last = is ∙ ap (λ (i : ℕ). get_or frames i frame) size ∙ ap (λ (l : List Frame). get_or l (length rest) frame) e ∙ get_or-append_seam rest last [] frame in
    (stack-pushed rest frames last e, subst (λ (f : Frame). ends_before bound (plain_frame f) ≡ true) same ends)

-- ---- frames that are closed

stack-length : (frames : List Frame) → length (stack frames) ≡ length frames
stack-length frames = length-reverse (map plain_frame frames) ∙ length-map frames plain_frame

pub fewer-left : (frames rest : List Frame) (frame : PlainFrame) → stack frames ≡ frame ∷ stack rest → length rest < length frames
fewer-left frames rest frame e = omega (arith, ap length e, stack-length frames, stack-length rest)

-- a frame was taken off, and a whole made of it
pub closed-on : {before : List PlainFrame × PlainTree} (bound : ℕ) (frames rest : List PlainFrame) (frame : PlainFrame) (tree whole : PlainTree) →
    before ≡ closed bound frames tree → frames ≡ frame ∷ rest → IsTrue (ends_before bound frame) → whole ≡ filled frame tree → before ≡ closed bound rest whole
closed-on bound frames rest frame tree whole so_far e ends made =
    so_far ∙ ap (λ (l : List PlainFrame). closed bound l tree) e
    ∙ ap (λ (b : Bool). if b then closed bound rest (filled frame tree) else (frame ∷ rest, tree)) ends ∙ ap (closed bound rest) (sym made)

goes_not : (b : Bool) → IsTrue (not b) → b ≡ false
goes_not true goes = absurd (false≢true goes)
goes_not false goes = refl

-- no frame is taken off any more
pub closed-out : {before : List PlainFrame × PlainTree} (bound : ℕ) (frames rest : List PlainFrame) (tree : PlainTree) →
    before ≡ closed bound frames tree → frames ≡ rest → IsTrue (goes_on bound frames) → before ≡ (rest, tree)
closed-out bound [] rest tree so_far e goes = so_far ∙ ap (λ (l : List PlainFrame). (l, tree)) e
closed-out bound (frame ∷ frames) rest tree so_far e goes =
    so_far ∙ ap (λ (b : Bool). if b then closed bound frames (filled frame tree) else (frame ∷ frames, tree)) (goes_not (ends_before bound frame) goes)
    ∙ ap (λ (l : List PlainFrame). (l, tree)) e
