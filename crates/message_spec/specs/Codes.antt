-- The result codes of a response (ITU-T G.988, clause 11.2.5).
use Rattle.std.specs.Prelude.{ℕ, List, [], ◌∷◌}
use Rattle.omci_types.specs.declared.Code.{Code}
use Rattle.omci_types.specs.declared.TheConstants.Code.{SUCCESS, PROCESSING_ERROR, NOT_SUPPORTED, PARAMETER_ERROR, UNKNOWN_CLASS, UNKNOWN_INSTANCE, BUSY, INSTANCE_EXISTS, ATTRIBUTES_FAILED}

-- a code and its number
pub record CodeRow : Type 0 where
  pub code : Code
  pub number : ℕ

abbrev pub code_row : Code → ℕ → CodeRow
code_row code number = record { code = code; number = number }

-- the codes that have a name, each with its number
abbrev pub code_table : List CodeRow
code_table =
    code_row SUCCESS 0
    ∷ code_row PROCESSING_ERROR 1
    ∷ code_row NOT_SUPPORTED 2
    ∷ code_row PARAMETER_ERROR 3
    ∷ code_row UNKNOWN_CLASS 4
    ∷ code_row UNKNOWN_INSTANCE 5
    ∷ code_row BUSY 6
    ∷ code_row INSTANCE_EXISTS 7
    ∷ code_row ATTRIBUTES_FAILED 9
    ∷ []
