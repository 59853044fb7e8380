mod Orders
mod Recent
mod Renewing
