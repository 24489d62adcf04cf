-- Which status tells which rule of a script.
use Rattle.std.proofs.Common.{◌≡◌, ℕ, ◌<◌, ◌≤◌, List, length, refl, ap, subst, inl, inr, arith}
use Rattle.std.specs.Io.KnownBytes.{Consumes, IsAtEnd}
use Rattle.gem_object.specs.texts.Bytes.{Bytes}
use Rattle.shell_words.specs.declared.limits.TheConstants.{SCRIPT_LIMIT}
use Rattle.shell_words.specs.Script.{SessionCommands}
use Rattle.shell_words.specs.ScriptGrammar.{ReadsScript, BreaksRule, long_script}
use Rattle.shell_words.proofs.OneAnswer.{one_rule, never_both}
use Rattle.shell_words.specs.Rules.{script_rule_number, IsScriptFault}
use Rattle.shell_words.specs.declared.fault.ScriptFault.{ScriptFault}
use Rattle.shell_words.specs.declared.fault.ScriptFault.TheVariants.{Rule, NoMemory as ShortOfMemory}
use Rattle.std.specs.Prelude.{Option}
use Rattle.gem_server.specs.declared.status.Status.{Status}
use Rattle.gem_server.specs.declared.status.Status.TheVariants.{Script, ReadFault, NoMemory}
use Rattle.gem_server.specs.Devices.{Seen, HasFailed}
use Rattle.gem_server.specs.Server.{IsWhole, Tells, IsRead, status_of, GivesScript, GivesNone, TellsOfSource}

abbrev line_of : Status → ℕ
line_of (Script line rule) = line
line_of _ = 0

abbrev broken_in : Status → ℕ
broken_in (Script line rule) = rule
broken_in _ = 0

script_told : (text : Bytes) (line rule : ℕ) → BreaksRule text line rule → Tells text (Script line rule)
script_told text line rule breaks number broken = (
  λ same. (tt, subst (λ (n : ℕ). BreaksRule text n broken) (ap line_of same) (subst (λ (b : ℕ). BreaksRule text line b) (ap broken_in same) breaks)),
  λ also. let one = one_rule text line number rule broken breaks also.1 in λ i. Script (one.0 i) (one.1 i),
)

-- the status tells why the text is no script, or that memory ran out
fault_told : (text : Bytes) (fault : ScriptFault) → IsScriptFault text fault → Tells text (status_of fault)
fault_told text (Rule line rule) breaks = script_told text line (script_rule_number rule) breaks
fault_told text ShortOfMemory breaks = λ line rule. (λ same. absurd cc, λ also. absurd also.0)

fault_of_source : (fault : ScriptFault) → TellsOfSource (status_of fault)
fault_of_source (Rule line rule) = tt
fault_of_source ShortOfMemory = tt

no_read_fault : (fault : ScriptFault) → status_of fault ≡ ReadFault → ⊥
no_read_fault (Rule line rule) same = cc
no_read_fault ShortOfMemory same = cc

-- the source gave a text that is no script, whose fault this is, or memory ran out
pub gives_fault : (source : Seen (Option Bytes)) (given : Bytes) (fault : ScriptFault) → Consumes source.before source.after given
    → IsWhole source.after given → source.faults_after ≡ source.faults → IsScriptFault given fault → GivesNone source (status_of fault)
gives_fault source given fault gave whole quiet is = record {
  read = record {
    given = given;
    gave = gave;
    whole = λ read. whole;
    tells = fault_told given fault is;
    fault = λ same. absurd (no_read_fault fault same);
    fault_told = λ lt. absurd (omega (arith, lt, quiet));
    later = omega (arith, quiet);
  };
  of_source = fault_of_source fault;
}

-- the source gave more than a script has
pub gives_too_much : (source : Seen (Option Bytes)) (given : Bytes) → Consumes source.before source.after given
    → SCRIPT_LIMIT < length given → source.faults_after ≡ source.faults → GivesNone source (Script 0 7)
gives_too_much source given gave long quiet = record {
  read = record {
    given = given;
    gave = gave;
    whole = λ read. inr long;
    tells = script_told given 0 7 (long_script long refl refl);
    fault = λ same. absurd cc;
    fault_told = λ lt. absurd (omega (arith, lt, quiet));
    later = omega (arith, quiet);
  };
  of_source = tt;
}

-- the source failed
pub gives_read_fault : (source : Seen (Option Bytes)) (given : Bytes) → Consumes source.before source.after given
    → HasFailed source → source.faults ≤ source.faults_after → GivesNone source ReadFault
gives_read_fault source given gave failed later = record {
  read = record {
    given = given;
    gave = gave;
    whole = λ read. absurd read;
    tells = λ line rule. (λ same. absurd cc, λ also. absurd also.0);
    fault = λ same. failed;
    fault_told = λ lt. refl;
    later = later;
  };
  of_source = tt;
}

-- there was no memory for what it gave
pub gives_no_room : (source : Seen (Option Bytes)) (given : Bytes) → Consumes source.before source.after given
    → source.faults_after ≡ source.faults → GivesNone source NoMemory
gives_no_room source given gave quiet = record {
  read = record {
    given = given;
    gave = gave;
    whole = λ read. absurd read;
    tells = λ line rule. (λ same. absurd cc, λ also. absurd also.0);
    fault = λ same. absurd cc;
    fault_told = λ lt. absurd (omega (arith, lt, quiet));
    later = omega (arith, quiet);
  };
  of_source = tt;
}

pub gives_script : (source : Seen (Option Bytes)) (text : Bytes) (script : List SessionCommands) → Consumes source.before source.after text
    → IsAtEnd source.after → source.faults_after ≡ source.faults → ReadsScript text script → GivesScript source script
gives_script source text script gave at_end quiet reads =
    record { text = text; gave = gave; at_end = at_end; reads = reads; quiet = quiet }

-- ---- a script was given

-- the status tells nothing of the source
abbrev pub IsSilent : Status → Type 0
IsSilent (Script line rule) = ⊥
IsSilent ReadFault = ⊥
IsSilent _ = Unit {0}

no_rule : (status : Status) (line rule : ℕ) → IsSilent status → status ≡ Script line rule → ⊥
no_rule status line rule silent same = subst IsSilent same silent

not_failed : (status : Status) → IsSilent status → status ≡ ReadFault → ⊥
not_failed status silent same = subst IsSilent same silent

pub script_read : (source : Seen (Option Bytes)) (script : List SessionCommands) (status : Status) → GivesScript source script
    → IsSilent status → IsRead source status
script_read source script status gives silent = record {
  given = gives.text;
  gave = gives.gave;
  whole = λ read. inl gives.at_end;
  tells = λ line rule. (
    λ same. absurd (no_rule status line rule silent same),
    λ also. absurd (never_both gives.text script line rule gives.reads also.1),
  );
  fault = λ same. absurd (not_failed status silent same);
  fault_told = λ lt. let same = gives.quiet in absurd (omega (arith, lt, same));
  later = let same = gives.quiet in omega (arith, same);
}
