-- What the holder of links sees after their parts have changed.
use Rattle.std.proofs.Common.{◌≡◌, ◌≢◌, ◌∙◌, ℕ, ◌+◌, ◌-◌, ◌<◌, suc, List, [], ◌∷◌, ◌++◌, length, get_or, set, take, refl, sym, subst, ap, arith}
use Rattle.std.specs.Prelude.{drop}
use Rattle.cc_defs.specs.Clauses.{Literal, IsLiteralOver}
use Rattle.cc_trail.specs.Links.{LinksView, AreAhead, BeginsWith, watched_at, code_of}
use Rattle.cc_trail.specs.LinkParts.{chain_of, link_at, heads_relinked, next_relinked, AreLinks, view_of}
use Rattle.cc_trail.specs.declared.links.Links.TheInside.{Inside}
use Rattle.cc_trail.proofs.Codes.{read_at}
use Rattle.cc_trail.proofs.Linked.{within_heads, links_begun, nodes_begun, none_ended, node_within, links_passed, chain_passed, counts, links_removed, links_moved, chain_moved, links_added}

module _ (inside : Inside) (old : LinksView) (is : view_of inside ≡ old)
    (links : AreLinks inside.variables inside.heads.items inside.nodes.next inside.nodes.watched inside.walked inside.before) where
  ahead_is : chain_of (length inside.nodes.next) inside.nodes.next (link_at inside.heads.items inside.nodes.next inside.walked inside.before) ≡ old.ahead
  ahead_is = ap (λ (v : LinksView). v.ahead) is

  over_here : (literal : Literal) → IsLiteralOver old.variables literal → IsLiteralOver inside.variables literal
  over_here literal over = subst (λ (v : LinksView). IsLiteralOver v.variables literal) (sym is) over

  -- a walk begins and ends
  module _ (literal : Literal) (over : IsLiteralOver old.variables literal) (code : ℕ) (code_is : code ≡ code_of literal) where
    pub links_then_begun : AreLinks inside.variables inside.heads.items inside.nodes.next inside.nodes.watched code 0
    links_then_begun =
        rw code_is (links_begun inside.variables inside.heads.items inside.nodes.next inside.nodes.watched inside.walked inside.before links literal (over_here literal over))

    pub view_begun : AreAhead old (record (view_of inside) { ahead = chain_of (length inside.nodes.next) inside.nodes.next (link_at inside.heads.items inside.nodes.next code 0) }) literal
    view_begun = subst (λ (v : LinksView). AreAhead v
        (record (view_of inside) { ahead = chain_of (length inside.nodes.next) inside.nodes.next (link_at inside.heads.items inside.nodes.next code 0) }) literal) is
        (record {
          variables = refl;
          watched = refl;
          nodes = rw code_is
              (nodes_begun inside.variables inside.heads.items inside.nodes.next inside.nodes.watched inside.walked inside.before links literal (over_here literal over));
        })

  pub view_ended : ◌≡◌ {A = LinksView} (record (view_of inside) { ahead = chain_of (length inside.nodes.next) inside.nodes.next (link_at inside.heads.items inside.nodes.next 0 0) })
      (record old { ahead = [] })
  view_ended =
      rw (none_ended inside.variables inside.heads.items inside.nodes.next inside.nodes.watched inside.walked inside.before links)
      (ap (λ (v : LinksView). let w : LinksView = record v { ahead = [] } in w) is)

  -- it goes on
  module _ (node : ℕ) (begins : BeginsWith old.ahead node) (mark : ℕ) (mark_is : mark ≡ suc node) where
    begins_here : chain_of (length inside.nodes.next) inside.nodes.next (link_at inside.heads.items inside.nodes.next inside.walked inside.before) ≡ node ∷ begins.0
    begins_here = ahead_is ∙ begins.1

    pub within_here : (node < length inside.nodes.next) × (node < length inside.nodes.watched)
    within_here =
        node_within inside.variables inside.heads.items inside.nodes.next inside.nodes.watched inside.walked inside.before links node (begins.0) begins_here

    pub links_then_passed : AreLinks inside.variables inside.heads.items inside.nodes.next inside.nodes.watched inside.walked mark
    links_then_passed = rw mark_is
        (links_passed inside.variables inside.heads.items inside.nodes.next inside.nodes.watched inside.walked inside.before links node (begins.0) begins_here)

    pub view_passed : ◌≡◌ {A = LinksView}
        (record (view_of inside) { ahead = chain_of (length inside.nodes.next) inside.nodes.next (link_at inside.heads.items inside.nodes.next inside.walked mark) })
        (record old { ahead = drop 1 old.ahead })
    view_passed = rw (
      mark_is,
      begins.1,
      chain_passed inside.variables inside.heads.items inside.nodes.next inside.nodes.watched inside.walked inside.before links node (begins.0) begins_here,
    )
        (ap (λ (v : LinksView). let w : LinksView = record v { ahead = begins.0 } in w) is)

    -- a node is taken out of its chain
    module _ (link : ℕ) (link_is : link ≡ get_or inside.nodes.next node 0) (heads next : List ℕ)
        (heads_are : heads ≡ heads_relinked inside.heads.items inside.walked inside.before link) (next_are : next ≡ next_relinked inside.nodes.next inside.before link) where
      heads_here : heads ≡ heads_relinked inside.heads.items inside.walked inside.before (get_or inside.nodes.next node 0)
      heads_here = heads_are ∙ ap (λ (n : ℕ). heads_relinked inside.heads.items inside.walked inside.before n) link_is

      next_here : next ≡ next_relinked inside.nodes.next inside.before (get_or inside.nodes.next node 0)
      next_here = next_are ∙ ap (λ (n : ℕ). next_relinked inside.nodes.next inside.before n) link_is

      pub counts_here : (length heads ≡ length inside.heads.items) × (length next ≡ length inside.nodes.next)
      counts_here = counts inside.variables inside.heads.items inside.nodes.next inside.nodes.watched inside.walked inside.before links node (begins.0) begins_here
          heads next heads_here next_here

      -- it is the last one, and the lists end before it
      module _ (last : node ≡ length inside.nodes.watched - 1) (shorter : List ℕ) (shorter_is : shorter ≡ take (length next - 1) next)
          (watched : List Literal) (watched_is : watched ≡ take (length inside.nodes.watched - 1) inside.nodes.watched) where
        last_here : (suc node ≡ length inside.nodes.next) × (length next - 1 ≡ node)
        last_here =
            let count = links.next_count in
            let same = counts_here in
            let within = within_here in
            ((omega (arith, within.0)), omega (arith, within.0, same.1))

        pub links_then_removed : AreLinks inside.variables heads shorter watched 0 0
        links_then_removed = rw (shorter_is, watched_is, last_here.1, sym last)
            (links_removed inside.variables inside.heads.items inside.nodes.next inside.nodes.watched inside.walked inside.before links node (begins.0) begins_here
            heads next heads_here next_here (last_here.0))

        pub view_removed : ◌≡◌ {A = LinksView} (record (view_of inside) { watched = watched; ahead = chain_of (length shorter) shorter (link_at heads shorter 0 0) })
            (record old { watched = take (length old.watched - 1) old.watched; ahead = [] })
        view_removed = rw (none_ended inside.variables heads shorter watched 0 0 links_then_removed, watched_is)
            (ap (λ (v : LinksView). let w : LinksView = record v { watched = take (length v.watched - 1) v.watched; ahead = [] } in w) is)

      -- it is moved to another one
      module _ (literal : Literal) (over : IsLiteralOver old.variables literal) (apart : watched_at old.watched node ≢ literal) (code : ℕ) (code_is : code ≡ code_of literal) where
        apart_here : watched_at inside.nodes.watched node ≢ literal
        apart_here = subst (λ (v : LinksView). watched_at v.watched node ≢ literal) (sym is) apart

        pub code_within : code < length heads
        code_within =
            let low = within_heads inside.variables inside.heads.items inside.nodes.next inside.nodes.watched inside.walked inside.before links literal (over_here literal over) in
            let same = counts_here in omega (arith, low, same.0)

        module _ (first : ℕ) (first_is : first ≡ get_or heads code first) where
          first_here : first ≡ get_or heads (code_of literal) 0
          first_here = read_at heads code first 0 code_within first_is ∙ ap (λ (n : ℕ). get_or heads n 0) code_is

          pub links_then_moved : AreLinks inside.variables (set heads code mark) (set next node first) (set inside.nodes.watched node literal) inside.walked inside.before
          links_then_moved = rw code_is
              (links_moved inside.variables inside.heads.items inside.nodes.next inside.nodes.watched inside.walked inside.before links node (begins.0) begins_here
              heads next heads_here next_here literal (over_here literal over) apart_here mark mark_is first first_here)

          pub view_moved : ◌≡◌ {A = LinksView} (record (view_of inside) {
            watched = set inside.nodes.watched node literal;
            ahead = chain_of (length (set next node first)) (set next node first) (link_at (set heads code mark) (set next node first) inside.walked inside.before);
          })
              (record old { watched = set old.watched node literal; ahead = drop 1 old.ahead })
          view_moved = rw (
            code_is,
            begins.1,
            chain_moved inside.variables inside.heads.items inside.nodes.next inside.nodes.watched inside.walked inside.before links node (begins.0) begins_here
                heads next heads_here next_here literal (over_here literal over) apart_here mark mark_is first first_here,
          )
              (ap (λ (v : LinksView). let w : LinksView = record v { watched = set v.watched node literal; ahead = begins.0 } in w) is)

  -- two nodes are added
  module _ (none : old.ahead ≡ []) (a b : Literal) (a_over : IsLiteralOver old.variables a) (b_over : IsLiteralOver old.variables b) (apart : a ≢ b)
      (count : ℕ) (few : count < 4294966000) (count_is : count ≡ length inside.nodes.watched) (a_code b_code : ℕ) (a_is : a_code ≡ code_of a) (b_is : b_code ≡ code_of b)
      (one two : ℕ) (one_is : one ≡ get_or inside.heads.items a_code one) (two_is : two ≡ get_or inside.heads.items b_code two)
      (next : List ℕ) (watched : List Literal)
      (next_is : next ≡ inside.nodes.next ++ one ∷ two ∷ []) (watched_is : watched ≡ inside.nodes.watched ++ a ∷ b ∷ []) where
    few_here : length inside.nodes.watched < 4294966000
    few_here = omega arith

    low_here : (code_of a < length inside.heads.items) × (code_of b < length inside.heads.items)
    low_here = (
      within_heads inside.variables inside.heads.items inside.nodes.next inside.nodes.watched inside.walked inside.before links a (over_here a a_over),
      within_heads inside.variables inside.heads.items inside.nodes.next inside.nodes.watched inside.walked inside.before links b (over_here b b_over),
    )

    one_here : one ≡ get_or inside.heads.items (code_of a) 0
    one_here = let low = low_here in read_at inside.heads.items a_code one 0 (omega (arith, low.0)) one_is ∙ ap (λ (n : ℕ). get_or inside.heads.items n 0) a_is

    two_here : two ≡ get_or inside.heads.items (code_of b) 0
    two_here = let low = low_here in read_at inside.heads.items b_code two 0 (omega (arith, low.1)) two_is ∙ ap (λ (n : ℕ). get_or inside.heads.items n 0) b_is

    added : AreLinks inside.variables (set (set inside.heads.items (code_of a) (count + 1)) (code_of b) (count + 2)) (inside.nodes.next ++ one ∷ two ∷ [])
        (inside.nodes.watched ++ a ∷ b ∷ []) 0 0
    added = links_added inside.variables inside.heads.items inside.nodes.next inside.nodes.watched inside.walked inside.before links a b (over_here a a_over) (over_here b b_over)
        apart few_here one two one_here two_here (count + 1) (count + 2) (omega arith) (omega arith)

    pub links_then_added : AreLinks inside.variables (set (set inside.heads.items a_code (count + 1)) b_code (count + 2)) next watched 0 0
    links_then_added = rw (a_is, b_is, next_is, watched_is) added

    pub view_added : ◌≡◌ {A = LinksView} (record (view_of inside) {
      watched = watched;
      ahead = chain_of (length next) next (link_at (set (set inside.heads.items a_code (count + 1)) b_code (count + 2)) next 0 0);
    })
        (record old { watched = old.watched ++ a ∷ b ∷ [] })
    view_added = rw (none_ended inside.variables (set (set inside.heads.items a_code (count + 1)) b_code (count + 2)) next watched 0 0 links_then_added, watched_is)
        (ap (λ (v : LinksView). let w : LinksView = record v { watched = v.watched ++ a ∷ b ∷ []; ahead = [] } in w) is ∙
        ap (λ (ns : List ℕ). let w : LinksView = record old { watched = old.watched ++ a ∷ b ∷ []; ahead = ns } in w) (sym none))
