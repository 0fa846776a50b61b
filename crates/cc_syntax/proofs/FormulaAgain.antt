-- What is spelled as a formula is read, backwards over the turns of the reader: what follows from the formula that was
-- read follows from the place where it was wanted.
use Rattle.std.proofs.Common.{◌≡◌, ℕ, zero, suc, ◌<◌, ◌≤◌, true, List, ◌∷◌, length, Option, Some, None, refl, sym, ap, subst, ◌∙◌, arith}
use Rattle.std.proofs.lemmas.Bool.{le-leb}
use Rattle.cc_defs.specs.declared.token.Mark.{Mark}
use Rattle.cc_defs.specs.declared.token.Mark.TheVariants as marks
use Rattle.cc_defs.specs.Trees.{PlainTerm, Applied, NoSums, MoreSums, PlainPiece, Numeral, Called, PlainSum, Summed, NoAddends, PlainTree, Comparison, IsEqual, Differs, IsLess, IsAtMost, IsMore, IsAtLeast}
use Rattle.cc_defs.specs.Trees as trees
use Rattle.cc_defs.specs.Grammar.{Terminal, Sign, sign, name, term, sum, piece, comparing, ◌▸◌, formula_of}
use Rattle.cc_syntax.specs.declared.operators.Operator.{Operator}
use Rattle.cc_syntax.specs.declared.operators.Operator.TheVariants as operators
use Rattle.cc_syntax.specs.Readers.{given, ◌>>=◌, sign_at}
use Rattle.cc_syntax.specs.Operators.{comparison_at, operator_at, strength, left_strength, right_strength, joined}
use Rattle.cc_syntax.specs.Formulas.{PlainFrame, Not, Paren, ForAll, Exists, Left, filled, ends_before, PlainTurn, Wants, Has, Ends, variable_at, frame_at, atom_at, Held, begun, gone_on, run_from}
use Rattle.cc_syntax.proofs.Comparisons.{comparison-here}
use Rattle.cc_syntax.proofs.IsReader.{ends_sum}
use Rattle.cc_syntax.proofs.Singles.{some-is, sign-literal, name-reader}
use Rattle.cc_syntax.proofs.TermReader.{sum-reader}
use Rattle.cc_syntax.proofs.Strengths.{mark_of, operator-here, strength-most, left-least, right-least, joined-parts, room, stays, formula-shorter}

sign-again : (mark : Mark) (tokens rest : List Terminal) → sign mark tokens rest → sign_at mark tokens ≡ Some rest
sign-again mark = (sign-literal mark).again

-- ---- turns

abbrev Result : Type 0
Result = Option (PlainTree × List Terminal)

abbrev left_at : PlainTurn → List Terminal
left_at (Wants tokens) = tokens
left_at (Has tree tokens) = tokens
left_at (Ends tree tokens) = tokens

-- what the reading gives, in turns enough
abbrev pub Gives : List PlainFrame → PlainTurn → Result → Type 0
Gives frames turn result = (n : ℕ) → length (left_at turn) < n → run_from n (frames, turn) ≡ result

given-same : {A B : Type 0} (o : Option A) (one other : B) (f g : A → B) → one ≡ other → ((x : A) → o ≡ Some x → f x ≡ g x) → given o one f ≡ given o other g
given-same None one other f g e h = e
given-same (Some x) one other f g e h = h x refl

wants-frame : (frame : PlainFrame) (frames : List PlainFrame) (tokens inner : List Terminal) (result : Result) → frame_at tokens ≡ Some (frame, inner) → length inner < length tokens
    → Gives (frame ∷ frames) (Wants inner) result → Gives frames (Wants tokens) result
unfolding run_from begun
wants-frame frame frames tokens inner result e short gives zero lt = absurd (omega arith)
wants-frame frame frames tokens inner result e short gives (suc n) lt = rw e (gives n (omega arith))

wants-atom : (tree : PlainTree) (frames : List PlainFrame) (tokens rest : List Terminal) (result : Result) → frame_at tokens ≡ None → atom_at tokens ≡ Some (tree, rest)
    → length rest < length tokens → Gives frames (Has tree rest) result → Gives frames (Wants tokens) result
unfolding run_from begun
wants-atom tree frames tokens rest result none e short gives zero lt = absurd (omega arith)
wants-atom tree frames tokens rest result none e short gives (suc n) lt = rw (none, e) (gives n (omega arith))

has-same : (frames others : List PlainFrame) (f g : PlainTree) (rest : List Terminal) (result : Result) → gone_on frames f rest ≡ gone_on others g rest
    → Gives others (Has g rest) result → Gives frames (Has f rest) result
unfolding run_from
has-same frames others f g rest result e gives zero lt = absurd (omega arith)
has-same frames others f g rest result e gives (suc n) lt = ap (λ (o : Option Held). o >>= run_from n) e ∙ gives (suc n) lt

has-next : (frames others : List PlainFrame) (f : PlainTree) (tokens rest : List Terminal) (turn : PlainTurn) (result : Result) → gone_on frames f tokens ≡ Some (others, turn)
    → length (left_at turn) < length tokens → Gives others turn result → Gives frames (Has f tokens) result
unfolding run_from
has-next frames others f tokens rest turn result e short gives zero lt = absurd (omega arith)
has-next frames others f tokens rest turn result e short gives (suc n) lt = rw e (gives n (omega arith))

-- ---- what may follow

-- what follows does not go on with a formula of the strength
abbrev pub Follows : ℕ → List Terminal → Type 0
Follows s rest =
    (ends_sum rest ≡ true) × (comparison_at rest ≡ None)
    × ((read : Operator × List Terminal) → operator_at rest ≡ Some read → s ≤ left_strength read.0)

follows-less : (s t : ℕ) (rest : List Terminal) → s ≤ t → Follows t rest → Follows s rest
follows-less s t rest le p = (p.0, p.1, λ read e. let more = p.2 read e in omega arith)

operator-follows : (op : Operator) (rest : List Terminal) → Follows (left_strength op) (Sign (mark_of op) ∷ rest)
operator-follows op rest = (at_operator op, at_comparison op, λ read e. let same = some-is (op, rest) read (sym (operator-here op rest) ∙ e) in subst (λ (r : Operator × List Terminal). left_strength op ≤ left_strength r.0) same (omega arith))
  where
    at_operator : (op : Operator) → ends_sum (Sign (mark_of op) ∷ rest) ≡ true
    at_operator operators.Both = refl
    at_operator operators.Either = refl
    at_operator operators.Implies = refl
    at_operator operators.Same = refl

    at_comparison : (op : Operator) → comparison_at (Sign (mark_of op) ∷ rest) ≡ None
    at_comparison operators.Both = refl
    at_comparison operators.Either = refl
    at_comparison operators.Implies = refl
    at_comparison operators.Same = refl

paren-follows : (rest : List Terminal) → Follows 4 (Sign marks.RightParen ∷ rest)
paren-follows rest = (refl, refl, λ read e. absurd cc)

bracket-follows : (rest : List Terminal) → Follows 4 (Sign marks.RightBracket ∷ rest)
bracket-follows rest = (refl, refl, λ read e. absurd cc)

-- ---- atoms

-- a sum begins with a word or a number
term-begins : (t : PlainTerm) (tokens rest : List Terminal) → term t tokens rest → frame_at tokens ≡ None
term-begins (Applied text NoSums) tokens rest p = subst (λ (l : List Terminal). frame_at l ≡ None) (sym p.1) refl
term-begins (Applied text (MoreSums first others)) tokens rest p = subst (λ (l : List Terminal). frame_at l ≡ None) (sym p.1.1) refl

piece-begins : (x : PlainPiece) (tokens rest : List Terminal) → piece x tokens rest → frame_at tokens ≡ None
piece-begins (Numeral n) tokens rest p = subst (λ (l : List Terminal). frame_at l ≡ None) (sym p.1) refl
piece-begins (Called t) tokens rest p = term-begins t tokens rest p

sum-begins : (s : PlainSum) (tokens rest : List Terminal) → sum s tokens rest → frame_at tokens ≡ None
sum-begins (Summed first others) tokens rest p = piece-begins first tokens p.0 p.1

bare-again : (t : PlainTerm) (s : ℕ) (tokens rest : List Terminal) → term t tokens rest → Follows s rest → atom_at tokens ≡ Some (trees.Bare t, rest)
unfolding atom_at
bare-again t s tokens rest p follows =
    let spelled : sum (Summed (Called t) NoAddends) tokens rest = (rest, p, refl) in
    rw (sum-reader.again (Summed (Called t) NoAddends) tokens rest spelled follows.0, follows.1) refl

comparison-ends : (comparison : Comparison) (rest : List Terminal) → ends_sum (Sign (comparing comparison) ∷ rest) ≡ true
comparison-ends IsEqual rest = refl
comparison-ends Differs rest = refl
comparison-ends IsLess rest = refl
comparison-ends IsAtMost rest = refl
comparison-ends IsMore rest = refl
comparison-ends IsAtLeast rest = refl

compared-again : (comparison : Comparison) (x y : PlainSum) (s : ℕ) (tokens rest : List Terminal) → (sum x ▸ sign (comparing comparison) ▸ sum y) tokens rest → Follows s rest
    → atom_at tokens ≡ Some (trees.Compared comparison x y, rest)
unfolding atom_at
compared-again comparison x y s tokens rest p follows =
    let ends : ends_sum p.0 ≡ true = ap ends_sum p.2.1 ∙ comparison-ends comparison p.2.0 in
    let here : comparison_at p.0 ≡ Some (comparison, p.2.0) = ap comparison_at p.2.1 ∙ comparison-here comparison p.2.0 in
    rw (sum-reader.again x tokens p.0 p.1 ends, here, sum-reader.again y p.2.0 rest p.2.2 follows.0) refl

-- ---- formulas

-- where the formula is read, what follows it follows
abbrev pub Claim : PlainTree → Type 0
Claim tree =
    (s : ℕ) (frames : List PlainFrame) (tokens rest : List Terminal) (result : Result) → formula_of s tree tokens rest → s ≤ room frames → Follows s rest
    → Gives frames (Has tree rest) result → Gives frames (Wants tokens) result

bare-claim : (t : PlainTerm) → Claim (trees.Bare t)
bare-claim t s frames tokens rest result p le follows gives =
    wants-atom (trees.Bare t) frames tokens rest result (term-begins t tokens rest p) (bare-again t s tokens rest p follows) (formula-shorter (trees.Bare t) s tokens rest p) gives

compared-claim : (comparison : Comparison) (x y : PlainSum) → Claim (trees.Compared comparison x y)
compared-claim comparison x y s frames tokens rest result p le follows gives =
    wants-atom (trees.Compared comparison x y) frames tokens rest result (sum-begins x tokens p.0 p.1) (compared-again comparison x y s tokens rest p follows)
    (formula-shorter (trees.Compared comparison x y) s tokens rest p) gives

-- a frame that ends before each operator that may follow is closed there
gone_on-filled : (frame : PlainFrame) (frames : List PlainFrame) (tree : PlainTree) (rest : List Terminal) → ends_before 4 frame ≡ true
    → ((read : Operator × List Terminal) → operator_at rest ≡ Some read → ends_before (left_strength read.0) frame ≡ true)
    → gone_on (frame ∷ frames) tree rest ≡ gone_on frames (filled frame tree) rest
unfolding gone_on
gone_on-filled frame frames tree rest e h =
    given-same (operator_at rest) _ _ _ _ (rw e refl) (λ read q. rw (h read q) refl)

not-claim : (f : PlainTree) → Claim f → Claim (trees.Not f)
not-claim f inner s frames tokens rest result p le follows gives =
    let begins : frame_at tokens ≡ Some (Not, p.0) = rw p.1 refl in
    wants-frame Not frames tokens p.0 result begins ((sign-literal marks.Minus).shorter tokens p.0 p.1)
    (inner 0 (Not ∷ frames) p.0 rest result p.2 (omega arith) (follows-less 0 s rest (omega arith) follows)
    (has-same (Not ∷ frames) frames f (trees.Not f) rest result (gone_on-filled Not frames f rest refl (λ read q. refl)) gives))

gone_on-paren : (frames : List PlainFrame) (f : PlainTree) (rest : List Terminal) → gone_on (Paren ∷ frames) f (Sign marks.RightParen ∷ rest) ≡ Some (frames, Has (trees.Paren f) rest)
unfolding gone_on
gone_on-paren frames f rest = refl

paren-claim : (f : PlainTree) → Claim f → Claim (trees.Paren f)
paren-claim f inner s frames tokens rest result p le follows gives =
    let begins : frame_at tokens ≡ Some (Paren, p.0) = rw p.1 refl in
    let goes : gone_on (Paren ∷ frames) f p.2.0 ≡ Some (frames, Has (trees.Paren f) rest) = rw p.2.2 (gone_on-paren frames f rest) in
    let may : Follows 4 p.2.0 = subst (Follows 4) (sym p.2.2) (paren-follows rest) in
    wants-frame Paren frames tokens p.0 result begins ((sign-literal marks.LeftParen).shorter tokens p.0 p.1)
    (inner 4 (Paren ∷ frames) p.0 p.2.0 result p.2.1 (omega arith) may
    (has-next (Paren ∷ frames) frames f p.2.0 rest (Has (trees.Paren f) rest) result goes ((sign-literal marks.RightParen).shorter p.2.0 rest p.2.2) gives))

variable-again : (make : List ℕ → PlainFrame) (x : List ℕ) (tokens between rest : List Terminal) → name x tokens between → sign marks.Bar between rest
    → variable_at make tokens ≡ Some (make x, rest)
variable-again make x tokens between rest p q = rw (name-reader.again x tokens between p refl, sign-again marks.Bar between rest q) refl

-- a quantifier, with what is known of its frame
quantifier-claim : (frame : PlainFrame) (frames : List PlainFrame) (f : PlainTree) (mark : Mark) (x : List ℕ) (tokens rest : List Terminal) (result : Result) → Claim f
    → room (frame ∷ frames) ≡ 4
    → ((first after inner : List Terminal) → name x first after → sign marks.Bar after inner → frame_at (Sign marks.LeftBracket ∷ Sign mark ∷ first) ≡ Some (frame, inner))
    → gone_on (frame ∷ frames) f (Sign marks.RightBracket ∷ rest) ≡ Some (frames, Has (filled frame f) rest)
    → (sign marks.LeftBracket ▸ sign mark ▸ name x ▸ sign marks.Bar ▸ formula_of 4 f ▸ sign marks.RightBracket) tokens rest
    → Gives frames (Has (filled frame f) rest) result → Gives frames (Wants tokens) result
quantifier-claim frame frames f mark x tokens rest result inner most begins ends p gives =
    let one = (sign-literal marks.LeftBracket).shorter tokens p.0 p.1 in
    let two = (sign-literal mark).shorter p.0 p.2.0 p.2.1 in
    let named = p.2.2 in
    let three = name-reader.shorter x p.2.0 named.0 named.1 in
    let four = (sign-literal marks.Bar).shorter named.0 named.2.0 named.2.1 in
    let body = named.2.2 in
    let begun_so : frame_at tokens ≡ Some (frame, named.2.0) =
    ap frame_at (p.1 ∙ ap (λ (l : List Terminal). Sign marks.LeftBracket ∷ l) p.2.1) ∙ begins p.2.0 named.0 named.2.0 named.1 named.2.1 in
    let goes : gone_on (frame ∷ frames) f body.0 ≡ Some (frames, Has (filled frame f) rest) = rw body.2 ends in
    let may : Follows 4 body.0 = subst (Follows 4) (sym body.2) (bracket-follows rest) in
    wants-frame frame frames tokens named.2.0 result begun_so (omega arith)
    (inner 4 (frame ∷ frames) named.2.0 body.0 result body.1 (omega (arith, most)) may
    (has-next (frame ∷ frames) frames f body.0 rest (Has (filled frame f) rest) result goes ((sign-literal marks.RightBracket).shorter body.0 rest body.2) gives))

for_all-claim : (x : List ℕ) (f : PlainTree) → Claim f → Claim (trees.ForAll x f)
unfolding gone_on
for_all-claim x f inner s frames tokens rest result p le follows gives =
    quantifier-claim (ForAll x) frames f marks.AllSign x tokens rest result inner refl (λ first after inside a b. variable-again ForAll x first after inside a b) refl p gives

exists-claim : (x : List ℕ) (f : PlainTree) → Claim f → Claim (trees.Exists x f)
unfolding gone_on
exists-claim x f inner s frames tokens rest result p le follows gives =
    quantifier-claim (Exists x) frames f marks.AnySign x tokens rest result inner refl (λ first after inside a b. variable-again Exists x first after inside a b) refl p gives

binary-claim : (op : Operator) (f g : PlainTree) → Claim f → Claim g → Claim (joined op f g)
unfolding gone_on
binary-claim op f g left right s frames tokens rest result p le follows gives =
    let parts = joined-parts op f g s tokens rest p in
    let least = parts.0 in
    let one = left-least op in
    let two = right-least op in
    let first = parts.1.1 in
    let between = parts.1.0 in
    let after = parts.1.2.0 in
    let at_sign = parts.1.2.1 in
    let may : Follows (left_strength op) between = subst (Follows (left_strength op)) (sym at_sign) (operator-follows op after) in
    let goes : gone_on frames f between ≡ Some (Left op f ∷ frames, Wants after) = rw (at_sign, operator-here op after, stays op frames f (omega arith)) refl in
    let same : gone_on (Left op f ∷ frames) g rest ≡ gone_on frames (joined op f g) rest =
    gone_on-filled (Left op f) frames g rest (le-leb (strength op) 4 (strength-most op))
    (λ read q. let more = follows.2 read q in le-leb (strength op) (left_strength read.0) (omega arith)) in
    left (left_strength op) frames tokens between result first (omega arith) may
    (has-next frames (Left op f ∷ frames) f between after (Wants after) result goes ((sign-literal (mark_of op)).shorter between after at_sign)
    (right (right_strength op) (Left op f ∷ frames) after rest result parts.1.2.2 (omega arith) (follows-less (right_strength op) s rest (omega arith) follows)
    (has-same (Left op f ∷ frames) frames g (joined op f g) rest result same gives)))

pub claim : (tree : PlainTree) → Claim tree
claim (trees.Bare t) = bare-claim t
claim (trees.Compared comparison x y) = compared-claim comparison x y
claim (trees.Paren f) = paren-claim f (claim f)
claim (trees.Not f) = not-claim f (claim f)
claim (trees.Both f g) = binary-claim operators.Both f g (claim f) (claim g)
claim (trees.Either f g) = binary-claim operators.Either f g (claim f) (claim g)
claim (trees.Implies f g) = binary-claim operators.Implies f g (claim f) (claim g)
claim (trees.Same f g) = binary-claim operators.Same f g (claim f) (claim g)
claim (trees.ForAll x f) = for_all-claim x f (claim f)
claim (trees.Exists x f) = exists-claim x f (claim f)
