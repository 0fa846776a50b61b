-- What a reader answers where one that it calls stops.
use Rattle.std.proofs.Common.{◌≡◌, ℕ, List, Option, None, Result, Ok, Err}
use Rattle.std.specs.Result.{IsErrAnd}
use Rattle.cc_defs.specs.declared.token.Token.{Token}
use Rattle.cc_defs.specs.Grammar.{Terminal}
use Rattle.cc_syntax.specs.declared.stop.Stop.{Stop}
use Rattle.cc_syntax.specs.declared.stop.Stop.TheVariants as stops
use Rattle.cc_syntax.specs.Views.{Reads, Passes}

-- the reader stops for the same reason, and has nothing to read where that one has not
pub stopped : {X Y : Type 0} (view : X → Y) (tokens : List Token) (result : Result (X × ℕ) Stop) (stop : Stop) (found : Option (Y × List Terminal))
    → IsErrAnd result (λ other. other ≡ stop) → (stop ≡ stops.NoTree → found ≡ None) → Reads view tokens result found
stopped view tokens (Ok read) stop found is none = absurd is
stopped view tokens (Err stops.NoTree) stop found is none = none (cc)
stopped view tokens (Err stops.OutOfMemory) stop found is none = tt

-- memory was wanting
pub out-of-memory : {X Y : Type 0} (view : X → Y) (tokens : List Token) (result : Result (X × ℕ) Stop) (found : Option (Y × List Terminal))
    → IsErrAnd result (λ other. other ≡ stops.OutOfMemory) → Reads view tokens result found
out-of-memory view tokens result found is = stopped view tokens result stops.OutOfMemory found is (λ e. absurd cc)

pub no-tree : {X Y : Type 0} (view : X → Y) (tokens : List Token) (stop : Stop) (found : Option (Y × List Terminal))
    → Reads view tokens (Err stop) found → stop ≡ stops.NoTree → found ≡ None
no-tree view tokens stops.NoTree found reads e = reads
no-tree view tokens stops.OutOfMemory found reads e = absurd cc

pub not-passed : (tokens : List Token) (stop : Stop) (found : Option (List Terminal)) → Passes tokens (Err stop) found → found ≡ None
not-passed tokens stops.NoTree found passes = passes
not-passed tokens stops.OutOfMemory found passes = absurd passes
