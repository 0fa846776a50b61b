-- The limits, by name and number.
use Rattle.std.specs.Prelude.{ℕ, List, codes}
use Rattle.cc_defs.specs.declared.refusal.LimitAt.{LimitAt}
use Rattle.cc_defs.specs.declared.refusal.LimitAt.TheVariants.{FileBytes, TotalBytes, IncludeDepth, TokenBytes, NumberDigits, DeclarationTokens, StatementTokens, Objects, DomainValues, GroundConstants, LawInstances, Choices, GroundNodes, Horizon, Rules, CnfVariables, Variables, AxiomClauses, AxiomLiterals, Histories, LogBytes}

-- what is counted, in words
abbrev pub limit_name : LimitAt → List ℕ
limit_name FileBytes = codes "file bytes"
limit_name TotalBytes = codes "total bytes"
limit_name IncludeDepth = codes "include depth"
limit_name TokenBytes = codes "token bytes"
limit_name NumberDigits = codes "number digits"
limit_name DeclarationTokens = codes "declaration tokens"
limit_name StatementTokens = codes "statement tokens"
limit_name Objects = codes "objects"
limit_name DomainValues = codes "domain values"
limit_name GroundConstants = codes "ground constants"
limit_name LawInstances = codes "law instances"
limit_name Choices = codes "choices"
limit_name GroundNodes = codes "ground nodes"
limit_name Horizon = codes "horizon"
limit_name Rules = codes "rules"
limit_name CnfVariables = codes "cnf variables"
limit_name Variables = codes "variables"
limit_name AxiomClauses = codes "axiom clauses"
limit_name AxiomLiterals = codes "axiom literals"
limit_name Histories = codes "histories"
limit_name LogBytes = codes "log bytes"

-- the greatest count that is not refused
abbrev pub limit_number : LimitAt → ℕ
limit_number FileBytes = 1048576
limit_number TotalBytes = 4194304
limit_number IncludeDepth = 8
limit_number TokenBytes = 255
limit_number NumberDigits = 9
limit_number DeclarationTokens = 20000
limit_number StatementTokens = 2000
limit_number Objects = 4096
limit_number DomainValues = 1000
limit_number GroundConstants = 20000
limit_number LawInstances = 1000000
limit_number Choices = 16000000
limit_number GroundNodes = 16000000
limit_number Horizon = 1000
limit_number Rules = 8000000
limit_number CnfVariables = 1000000
limit_number Variables = 4000000
limit_number AxiomClauses = 8000000
limit_number AxiomLiterals = 40000000
limit_number Histories = 100000000
limit_number LogBytes = 268435456

-- the numbers that conditions speak of most

abbrev pub most_steps : ℕ
most_steps = limit_number Horizon

abbrev pub most_rules : ℕ
most_rules = limit_number Rules

abbrev pub most_cnf_variables : ℕ
most_cnf_variables = limit_number CnfVariables

abbrev pub most_variables : ℕ
most_variables = limit_number Variables

abbrev pub most_clauses : ℕ
most_clauses = limit_number AxiomClauses

abbrev pub most_literals : ℕ
most_literals = limit_number AxiomLiterals

abbrev pub most_histories : ℕ
most_histories = limit_number Histories

abbrev pub most_log_bytes : ℕ
most_log_bytes = limit_number LogBytes
