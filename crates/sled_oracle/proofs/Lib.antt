mod OwnBlobs
mod SlowEnd
mod Tables
mod TakenHeaders
mod Walks
