-- A digest of commands in their order (own profile; SHA-256: FIPS 180-4, section 6.2).
use Rattle.std.specs.Prelude.{ℕ, List, ◌++◌, replicate, fold}
use Rattle.sha2.specs.Sha256.{sha256}
use Rattle.cad_versions.specs.declared.command.Command.{Command}
use Rattle.cad_commands.specs.declared.chain.Chain.{Chain}
use Rattle.cad_commands.specs.Writing.{command_text}

-- the bytes of the digest
abbrev pub digest_of : Chain → List ℕ
digest_of chain = chain.digest

-- of no commands
abbrev pub no_chain : List ℕ
no_chain = replicate 32 0

-- with a further command
abbrev pub chain_then : List ℕ → Command → List ℕ
chain_then chain command = sha256 (chain ++ command_text command)

-- of all commands
abbrev pub chain_of : List Command → List ℕ
chain_of commands = fold chain_then no_chain commands
