-- The sockets of a host (own profile).
use Rattle.std.specs.declared.net.socket_addr.SocketAddr.{SocketAddr}
use Rattle.cadastred_run.specs.declared.doors.Doors.{Doors}

-- the address that was requested for clients
abbrev pub address_requested : Doors → SocketAddr
address_requested doors = doors.requested
