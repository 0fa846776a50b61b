-- What the reader of formulas reads is spelled so: the open frames lead from the first token to the place where it is.
use Rattle.std.proofs.Common.{◌≡◌, ◌⊎◌, ℕ, zero, suc, ◌≤◌, Bool, true, false, cond, List, [], ◌∷◌, Some, refl, sym, ap, subst, ◌∙◌, arith, inl, inr}
use Rattle.std.proofs.lemmas.Bool.{leb-true, leb-false}
use Rattle.cc_defs.specs.declared.token.Mark.{Mark}
use Rattle.cc_defs.specs.declared.token.Mark.TheVariants as marks
use Rattle.cc_defs.specs.Trees.{PlainTerm, PlainPiece, Numeral, Called, PlainSum, Summed, NoAddends, MoreAddends, PlainTree, Comparison}
use Rattle.cc_defs.specs.Trees as trees
use Rattle.cc_defs.specs.Grammar.{Terminal, Sign, Spelling, sign, name, term, sum, ◌▸◌, where_it, formula_of}
use Rattle.cc_syntax.specs.declared.operators.Operator.{Operator}
use Rattle.cc_syntax.specs.Readers.{◌>>=◌, name_at, sign_at, ◌◁◌}
use Rattle.cc_syntax.specs.Terms.{sum_at}
use Rattle.cc_syntax.specs.Operators.{comparison_at, operator_at, strength, left_strength, right_strength}
use Rattle.cc_syntax.specs.Formulas.{PlainFrame, Not, Paren, ForAll, Exists, Left, filled, ends_before, closed, closing, Wants, Has, Ends, variable_at, quantifier_at, bracket_at, frame_at, alone_of, side_at, bare_at, atom_at, Held, begun, shut, pushed, gone_on, run_from}
use Rattle.cc_syntax.proofs.Singles.{bind_some, given_cases, some-is, sign-literal, name-reader}
use Rattle.cc_syntax.proofs.Comparisons.{comparison-takes}
use Rattle.cc_syntax.proofs.TermReader.{sum-reader}
use Rattle.cc_syntax.proofs.Strengths.{mark_of, operator-takes, strength-most, parts-joined, room_of, room, frame-tells, weaker}

sign-takes : (mark : Mark) (tokens rest : List Terminal) → sign_at mark tokens ≡ Some rest → sign mark tokens rest
sign-takes mark = (sign-literal mark).takes

-- ---- frames and atoms

-- a frame's own tokens, where a formula of the strength has room
abbrev pub Led : PlainFrame → ℕ → Spelling
Led Not most = sign marks.Minus
Led Paren most = sign marks.LeftParen
Led (ForAll x) most = sign marks.LeftBracket ▸ sign marks.AllSign ▸ name x ▸ sign marks.Bar
Led (Exists x) most = sign marks.LeftBracket ▸ sign marks.AnySign ▸ name x ▸ sign marks.Bar
Led (Left op f) most = where_it (strength op ≤ most) (formula_of (left_strength op) f ▸ sign (mark_of op))

variable-takes : (make : List ℕ → PlainFrame) (tokens : List Terminal) (read : PlainFrame × List Terminal) → variable_at make tokens ≡ Some read
    → (x : List ℕ) × (read.0 ≡ make x) × (name x ▸ sign marks.Bar) tokens read.1
variable-takes make tokens read e =
    let all = bind_some ((name_at ◁ sign_at marks.Bar) tokens) (λ found. Some (make found.0, found.1)) read e in
    let named = bind_some (name_at tokens) (λ found. sign_at marks.Bar found.1 >>= λ rest. Some (found.0, rest)) all.0 all.1 in
    let bar = bind_some (sign_at marks.Bar named.0.1) (λ rest. Some (named.0.0, rest)) all.0 named.2 in
    let inner = some-is (named.0.0, bar.0) all.0 bar.2 in
    let outer = some-is (make all.0.0, all.0.1) read all.2 in
    let same : bar.0 ≡ read.1 = ap (λ (r : List ℕ × List Terminal). r.1) inner ∙ ap (λ (r : PlainFrame × List Terminal). r.1) outer in
    let made : make named.0.0 ≡ read.0 = ap (λ (r : List ℕ × List Terminal). make r.0) inner ∙ ap (λ (r : PlainFrame × List Terminal). r.0) outer in
    (named.0.0, sym made, (named.0.1, name-reader.takes tokens named.0 named.1, sign-takes marks.Bar named.0.1 bar.0 bar.1 ∙ ap (λ (l : List Terminal). Sign marks.Bar ∷ l) same))

quantifier-takes : (most : ℕ) (tokens : List Terminal) (read : PlainFrame × List Terminal) → quantifier_at tokens ≡ Some read → Led read.0 most tokens read.1
quantifier-takes most tokens read e =
    let open_it = bind_some (sign_at marks.LeftBracket tokens) _ read e in
    let bracket = sign-takes marks.LeftBracket tokens open_it.0 open_it.1 in
    elim (given_cases (sign_at marks.AllSign open_it.0) _ _ _ open_it.2) [
      | inl all ↦
          let x = variable-takes ForAll all.0 read all.2 in
          subst (λ (frame : PlainFrame). Led frame most tokens read.1) (sym x.1)
          (open_it.0, bracket, (all.0, sign-takes marks.AllSign open_it.0 all.0 all.1, x.2))
      | inr other ↦
          let any = bind_some (sign_at marks.AnySign open_it.0) (variable_at Exists) read other.1 in
          let x = variable-takes Exists any.0 read any.2 in
          subst (λ (frame : PlainFrame). Led frame most tokens read.1) (sym x.1)
          (open_it.0, bracket, (any.0, sign-takes marks.AnySign open_it.0 any.0 any.1, x.2))
    ]

frame-takes : (most : ℕ) (tokens : List Terminal) (read : PlainFrame × List Terminal) → frame_at tokens ≡ Some read → Led read.0 most tokens read.1
frame-takes most tokens read e =
    elim (given_cases (sign_at marks.Minus tokens) (bracket_at tokens) _ _ e) [
      | inl minus ↦
          subst (λ (r : PlainFrame × List Terminal). Led r.0 most tokens r.1) (some-is (Not, minus.0) read minus.2) (sign-takes marks.Minus tokens minus.0 minus.1)
      | inr bracket ↦
          elim (given_cases (sign_at marks.LeftParen tokens) (quantifier_at tokens) _ _ bracket.1) [
            | inl paren ↦
                subst (λ (r : PlainFrame × List Terminal). Led r.0 most tokens r.1) (some-is (Paren, paren.0) read paren.2) (sign-takes marks.LeftParen tokens paren.0 paren.1)
            | inr quantifier ↦ quantifier-takes most tokens read quantifier.1
          ]
    ]

side-takes : (comparison : Comparison) (left : PlainSum) (tokens : List Terminal) (read : PlainTree × List Terminal) → side_at comparison left tokens ≡ Some read
    → (right : PlainSum) × (read.0 ≡ trees.Compared comparison left right) × sum right tokens read.1
side-takes comparison left tokens read e =
    let right = bind_some (sum_at tokens) (λ right. Some (trees.Compared comparison left right.0, right.1)) read e in
    let same = some-is (trees.Compared comparison left right.0.0, right.0.1) read right.2 in (
      right.0.0,
      sym (ap (λ (r : PlainTree × List Terminal). r.0) same),
      subst (λ (l : List Terminal). sum right.0.0 tokens l) (ap (λ (r : PlainTree × List Terminal). r.1) same) (sum-reader.takes tokens right.0 right.1),
    )

-- a sum that is one term is spelled as the term
alone-spelled : (s : PlainSum) (t : PlainTerm) (tokens rest : List Terminal) → alone_of s ≡ Some t → sum s tokens rest → term t tokens rest
alone-spelled (Summed (Called u) NoAddends) t tokens rest e p =
    subst (λ (l : List Terminal). term t tokens l) p.2 (subst (λ (z : PlainTerm). term z tokens p.0) (some-is u t e) p.1)
alone-spelled (Summed (Numeral n) NoAddends) t tokens rest e p = absurd cc
alone-spelled (Summed first (MoreAddends minus second others)) t tokens rest e p = absurd cc

bare-takes : (s : PlainSum) (tokens after : List Terminal) (read : PlainTree × List Terminal) → bare_at s after ≡ Some read → sum s tokens after → formula_of 0 read.0 tokens read.1
bare-takes s tokens after read e p =
    let t = bind_some (alone_of s) (λ t. Some (trees.Bare t, after)) read e in
    subst (λ (r : PlainTree × List Terminal). formula_of 0 r.0 tokens r.1) (some-is (trees.Bare t.0, after) read t.2) (alone-spelled s t.0 tokens after t.1 p)

atom-takes : (tokens : List Terminal) (read : PlainTree × List Terminal) → atom_at tokens ≡ Some read → formula_of 0 read.0 tokens read.1
unfolding atom_at
atom-takes tokens read e =
    let left = bind_some (sum_at tokens) _ read e in
    let spelled = sum-reader.takes tokens left.0 left.1 in
    elim (given_cases (comparison_at left.0.1) _ _ _ left.2) [
      | inl compared ↦
          let right = side-takes compared.0.0 left.0.0 compared.0.1 read compared.2 in
          subst (λ (f : PlainTree). formula_of 0 f tokens read.1) (sym right.1)
          (left.0.1, spelled, (compared.0.1, comparison-takes left.0.1 compared.0 compared.1, right.2))
      | inr alone ↦ bare-takes left.0.0 tokens left.0.1 read alone.1 spelled
    ]

-- ---- what is held

-- the frames lead from the tokens to what is left
abbrev Opens : List PlainFrame → Spelling
Opens [] tokens now = tokens ≡ now
Opens (frame ∷ frames) tokens now = (before : List Terminal) × Opens frames tokens before × Led frame (room frames) before now

-- the operand of the innermost frame ends behind an operator's left operand of the strength
abbrev stays_open : ℕ → List PlainFrame → Type 0
stays_open bound [] = Unit {0}
stays_open bound (frame ∷ frames) = ends_before bound frame ≡ false

abbrev Kept : ℕ → List Terminal → List Terminal → List PlainFrame × PlainTree → Type 0
Kept bound tokens now held =
    (before : List Terminal) × (s : ℕ) × Opens held.0 tokens before × formula_of s held.1 before now × (s ≤ bound) × (s ≤ room held.0) × stays_open bound held.0

filled-kept : (bound most s : ℕ) (frame : PlainFrame) (tree : PlainTree) (tokens before now : List Terminal) → Led frame most tokens before → formula_of s tree before now
    → s ≤ room_of frame → ends_before bound frame ≡ true → (t : ℕ) × formula_of t (filled frame tree) tokens now × (t ≤ bound) × (t ≤ most)
filled-kept bound most s Not tree tokens before now led p le e = (0, (before, led, weaker tree s 0 before now p le), omega arith, omega arith)
filled-kept bound most s Paren tree tokens before now led p le e = absurd cc
filled-kept bound most s (ForAll x) tree tokens before now led p le e = absurd cc
filled-kept bound most s (Exists x) tree tokens before now led p le e = absurd cc
filled-kept bound most s (Left op left) tree tokens before now led p le e =
    let whole = parts-joined op left tree (strength op) tokens now (omega arith)
    (led.1.0, led.1.1, (before, led.1.2, weaker tree s (right_strength op) before now p le)) in
    (strength op, whole, leb-true (strength op) bound e, led.0)

closed-kept : (bound : ℕ) (frames : List PlainFrame) (tree : PlainTree) (s : ℕ) (tokens before now : List Terminal) → Opens frames tokens before → formula_of s tree before now
    → s ≤ bound → s ≤ room frames → Kept bound tokens now (closed bound frames tree)
closed-kept bound [] tree s tokens before now opens p le most = (before, s, opens, p, le, most, tt)
closed-kept bound (frame ∷ frames) tree s tokens before now opens p le most =
    elim (test (ends_before bound frame)) [
      | inl e ↦
          let one = filled-kept bound (room frames) s frame tree opens.0 before now opens.2 p most e in
          let rest = closed-kept bound frames (filled frame tree) one.0 tokens opens.0 now opens.1 one.1 one.2 one.3 in
          subst (λ (t : Bool). Kept bound tokens now (cond t (closed bound frames (filled frame tree)) (frame ∷ frames, tree))) (sym e) rest
      | inr e ↦
          subst (λ (t : Bool). Kept bound tokens now (cond t (closed bound frames (filled frame tree)) (frame ∷ frames, tree))) (sym e) (before, s, opens, p, le, most, e)
    ]
  where
    test : (t : Bool) → (t ≡ true) ⊎ (t ≡ false)
    test true = inl refl
    test false = inr refl

-- the tokens lead to what is held
abbrev Good : List Terminal → Held → Type 0
Good tokens (frames, Wants now) = Opens frames tokens now
Good tokens (frames, Has tree now) = (before : List Terminal) × Opens frames tokens before × formula_of 0 tree before now
Good tokens (frames, Ends tree now) = formula_of 4 tree tokens now

begun-good : (frames : List PlainFrame) (tokens now : List Terminal) (held : Held) → Opens frames tokens now → begun frames now ≡ Some held → Good tokens held
unfolding begun
begun-good frames tokens now held opens e =
    elim (given_cases (frame_at now) _ _ _ e) [
      | inl p ↦
          subst (Good tokens) (some-is (p.0.0 ∷ frames, Wants p.0.1) held p.2) (now, opens, frame-takes (room frames) now p.0 p.1)
      | inr p ↦
          let atom = bind_some (atom_at now) (λ read. Some (frames, Has read.0 read.1)) held p.1 in
          subst (Good tokens) (some-is (frames, Has atom.0.0 atom.0.1) held atom.2) (now, opens, atom-takes now atom.0 atom.1)
    ]

-- a left operand has room
left-fits : (op : Operator) (frames : List PlainFrame) → stays_open (left_strength op) frames → strength op ≤ room frames
left-fits op [] open_still = strength-most op
left-fits op (frame ∷ frames) open_still =
    elim (frame-tells op frame) [
      | inl p ↦ let ends = p.0 in absurd cc
      | inr p ↦ p.1
    ]

pushed-good : (op : Operator) (tokens now rest : List Terminal) (held : List PlainFrame × PlainTree) → Kept (left_strength op) tokens now held → sign (mark_of op) now rest
    → Good tokens (pushed op held rest)
pushed-good op tokens now rest held kept p =
    (kept.0, kept.2, (left-fits op held.0 kept.6, (now, weaker held.1 kept.1 (left_strength op) kept.0 now kept.3 kept.4, p)))

bracket-filled : (frame : PlainFrame) (most : ℕ) (tree : PlainTree) (tokens before now rest : List Terminal) → ends_before 4 frame ≡ false → Led frame most tokens before
    → formula_of 4 tree before now → sign (closing frame) now rest → formula_of 0 (filled frame tree) tokens rest
bracket-filled Not most tree tokens before now rest e led p q = absurd cc
bracket-filled Paren most tree tokens before now rest e led p q = (before, led, (now, p, q))
bracket-filled (ForAll x) most tree tokens before now rest e led p q = (led.0, led.1, (led.2.0, led.2.1, (led.2.2.0, led.2.2.1, (before, led.2.2.2, (now, p, q)))))
bracket-filled (Exists x) most tree tokens before now rest e led p q = (led.0, led.1, (led.2.0, led.2.1, (led.2.2.0, led.2.2.1, (before, led.2.2.2, (now, p, q)))))
bracket-filled (Left op left) most tree tokens before now rest e led p q =
    let more = leb-false (strength op) 4 e in
    let least = strength-most op in
    absurd (omega arith)

shut-good : (tokens now : List Terminal) (frames : List PlainFrame) (tree : PlainTree) (held : Held) → Kept 4 tokens now (frames, tree) → shut (frames, tree) now ≡ Some held → Good tokens held
shut-good tokens now [] tree held kept e =
    subst (Good tokens) (some-is ([], Ends tree now) held e)
    (subst (λ (l : List Terminal). formula_of 4 tree l now) (sym kept.2) (weaker tree kept.1 4 kept.0 now kept.3 kept.4))
shut-good tokens now (frame ∷ frames) tree held kept e =
    let end = bind_some (sign_at (closing frame) now) (λ rest. Some (frames, Has (filled frame tree) rest)) held e in
    let inner = weaker tree kept.1 4 kept.0 now kept.3 kept.4 in
    let whole = bracket-filled frame (room frames) tree kept.2.0 kept.0 now end.0 kept.6 kept.2.2 inner (sign-takes (closing frame) now end.0 end.1) in
    subst (Good tokens) (some-is (frames, Has (filled frame tree) end.0) held end.2) (kept.2.0, kept.2.1, whole)

gone_on-good : (frames : List PlainFrame) (tree : PlainTree) (tokens now : List Terminal) (held : Held) → Good tokens (frames, Has tree now) → gone_on frames tree now ≡ Some held → Good tokens held
unfolding gone_on
gone_on-good frames tree tokens now held good e =
    elim (given_cases (operator_at now) _ _ _ e) [
      | inl p ↦
          let kept = closed-kept (left_strength p.0.0) frames tree 0 tokens good.0 now good.1 good.2 (omega arith) (omega arith) in
          subst (Good tokens) (some-is (pushed p.0.0 (closed (left_strength p.0.0) frames tree) p.0.1) held p.2)
          (pushed-good p.0.0 tokens now p.0.1 (closed (left_strength p.0.0) frames tree) kept (operator-takes now p.0 p.1))
      | inr p ↦
          let kept = closed-kept 4 frames tree 0 tokens good.0 now good.1 good.2 (omega arith) (omega arith) in
          let all = closed 4 frames tree in
          shut-good tokens now all.0 all.1 held kept p.1
    ]

pub run-takes : (n : ℕ) (held : Held) (tokens : List Terminal) (read : PlainTree × List Terminal) → Good tokens held → run_from n held ≡ Some read → formula_of 4 read.0 tokens read.1
unfolding run_from
run-takes n (frames, Ends tree now) tokens read good e =
    subst (λ (r : PlainTree × List Terminal). formula_of 4 r.0 tokens r.1) (some-is (tree, now) read e) good
run-takes zero (frames, Wants now) tokens read good e = absurd cc
run-takes zero (frames, Has tree now) tokens read good e = absurd cc
run-takes (suc n) (frames, Wants now) tokens read good e =
    let step = bind_some (begun frames now) (run_from n) read e in
    run-takes n step.0 tokens read (begun-good frames tokens now step.0 good step.1) step.2
run-takes (suc n) (frames, Has tree now) tokens read good e =
    let step = bind_some (gone_on frames tree now) (run_from n) read e in
    run-takes n step.0 tokens read (gone_on-good frames tree tokens now step.0 good step.1) step.2
