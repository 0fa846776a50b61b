use Rattle.std.proofs.Common.{◌≡◌, ◌-◌, ◌<◌, ◌≤◌, ℕ, suc, Option, Some, None, length, drop, subst, arith}
use Rattle.std.specs.Prelude.{IfSome, SomeIff}
use Rattle.cc_defs.specs.Clauses.{IsIn}
use Rattle.cc_trail.specs.Links.{LinksView, BeginsWith}
use Rattle.cc_trail.specs.LinkParts.{link_at, AreLinks, view_of}
use Rattle.cc_trail.specs.declared.links.Links.TheInside.{Inside}
use Rattle.cc_trail.proofs.Linked.{first_of, ahead_once, before_low}
use Rattle.cc_trail.proofs.links.Links.current.Goals as goal

first : (inside : Inside) (old : LinksView) (r : Option ℕ) (link : ℕ) → view_of inside ≡ old →
    AreLinks inside.variables inside.heads.items inside.nodes.next inside.nodes.watched inside.walked inside.before →
    link ≡ link_at inside.heads.items inside.nodes.next inside.walked inside.before → SomeIff r (1 ≤ link) (link - 1) →
    IfSome r (λ node. BeginsWith old.ahead node × (node < length old.watched) × (IsIn (drop 1 old.ahead) node → ⊥))
first inside old None link is links link_is e = tt
first inside old (Some node) link is links link_is e =
    let node_is : link_at inside.heads.items inside.nodes.next inside.walked inside.before ≡ suc node = omega (arith, e) in
    let there = first_of inside.variables inside.heads.items inside.nodes.next inside.nodes.watched inside.walked inside.before links node node_is in
    subst (λ (v : LinksView). BeginsWith v.ahead node × (node < length v.watched) × (IsIn (drop 1 v.ahead) node → ⊥)) is
    (there.0, there.1, ahead_once inside.variables inside.heads.items inside.nodes.next inside.nodes.watched inside.walked inside.before links node (there.0))

some_of : (r : Option ℕ) (P Q S : ℕ → Type 0) → IfSome r (λ node. P node × Q node × S node) → IfSome r P × IfSome r Q × IfSome r S
some_of None P Q S e = (tt, tt, tt)
some_of (Some node) P Q S e = e

both : (c : goal.After-checked_sub) → IfSome c.checked_sub.result (λ node. BeginsWith c.args.self.now.ahead node) ×
    IfSome c.checked_sub.result (λ node. node < length c.args.self.now.watched) × IfSome c.checked_sub.result (λ node. IsIn (drop 1 c.args.self.now.ahead) node → ⊥)
both c =
    some_of c.checked_sub.result (λ (node : ℕ). BeginsWith c.args.self.now.ahead node) (λ (node : ℕ). node < length c.args.self.now.watched)
    (λ (node : ℕ). IsIn (drop 1 c.args.self.now.ahead) node → ⊥)
    (first c.self.inside c.args.self.now c.checked_sub.result c.link_of.result c.self.view_is c.self.invariant
    (rw (← c.deref.ensures.value) c.link_of.ensures) c.checked_sub.ensures)

pub link_of-requires-clause-before : goal.link_of-requires-clause-before
link_of-requires-clause-before c =
    before_low c.self.inside.variables c.self.inside.heads.items c.self.inside.nodes.next c.self.inside.nodes.watched c.self.inside.walked c.self.inside.before c.self.invariant

pub returns-clause-some : goal.returns-clause-some
returns-clause-some c = (both c).0

pub returns-clause-within : goal.returns-clause-within
returns-clause-within c = (both c).1

pub returns-clause-once : goal.returns-clause-once
returns-clause-once c = (both c).2
